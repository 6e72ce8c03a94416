-- New literals in the place of one.
use Rattle.std.proofs.Common.{ℕ, zero, suc, ◌≡◌, ◌+◌, Bool, true, false, ◌&&◌, ◌||◌, List, [], ◌∷◌, ◌++◌, take, drop, slice_get, Some, refl}
use Rattle.std.specs.Bool.{beq}
use Rattle.std.specs.List.{list_any}
use Rattle.leo_q0.specs.Terms.{SimpleType}
use Rattle.leo_terms.specs.Tree.{Tree, variable, bound, symbol, app, lam, logic, absent}
use Rattle.leo_terms.specs.NormalForm.{normal_form}
use Rattle.leo_terms.proofs.ListLemmas.{slice_get-append}
use Rattle.leo_clause.specs.Sameness.{same_tree, same_literal}
use Rattle.leo_clause.specs.Trees.{Literal, ClauseTree}
use Rattle.leo_clause.specs.Typed.{IsOver, IsTypedLiteral, AreTyped, IsTyped}
use Rattle.leo_clause.proofs.Same.{same_tree-refl}
use Rattle.leo_kernel.specs.Conclusions.{with_literals, with_new, AreAmong}
use Rattle.leo_clausify.specs.Splitting.{AreNormal, turned}

-- terms over more variables
pub over-more : (variables more : List SimpleType) (depth : ℕ) (t : Tree) → IsOver variables depth t → IsOver (variables ++ more) depth t
over-more variables more depth (variable n a) h = slice_get-append variables more n a h
over-more variables more depth (bound i a) h = h
over-more variables more depth (symbol s a) h = tt
over-more variables more depth (app f x) h = (over-more variables more depth f h.0, over-more variables more depth x h.1)
over-more variables more depth (lam a t) h = over-more variables more (depth + 1) t h
over-more variables more depth (logic c x y) h = (over-more variables more depth x h.0, over-more variables more depth y h.1)
over-more variables more depth absent h = tt

pub literal-more : (variables more : List SimpleType) (l : Literal) → IsTypedLiteral variables l → IsTypedLiteral (variables ++ more) l
literal-more variables more l h = record {
  left_over = over-more variables more 0 l.left h.left_over;
  right_over = over-more variables more 0 l.right h.right_over;
  same_type = h.same_type;
}

typed-more : (variables more : List SimpleType) (ls : List Literal) → AreTyped variables ls → AreTyped (variables ++ more) ls
typed-more variables more [] h = tt
typed-more variables more (l ∷ ls) h = (literal-more variables more l h.0, typed-more variables more ls h.1)

typed-append : (variables : List SimpleType) (ls ks : List Literal) → AreTyped variables ls → AreTyped variables ks → AreTyped variables (ls ++ ks)
typed-append variables [] ks h g = g
typed-append variables (l ∷ ls) ks h g = (h.0, typed-append variables ls ks h.1 g)

typed-take : (variables : List SimpleType) (n : ℕ) (ls : List Literal) → AreTyped variables ls → AreTyped variables (take n ls)
typed-take variables zero ls h = tt
typed-take variables (suc n) [] h = tt
typed-take variables (suc n) (l ∷ ls) h = (h.0, typed-take variables n ls h.1)

typed-drop : (variables : List SimpleType) (n : ℕ) (ls : List Literal) → AreTyped variables ls → AreTyped variables (drop n ls)
typed-drop variables zero ls h = h
typed-drop variables (suc n) [] h = tt
typed-drop variables (suc n) (l ∷ ls) h = typed-drop variables n ls h.1

pub typed-placed : (c : ClauseTree) (i : ℕ) (fresh : List SimpleType) (new : List Literal) → IsTyped c → AreTyped (c.variables ++ fresh) new → IsTyped (with_new c i fresh new)
typed-placed c i fresh new h g =
    let vs = c.variables ++ fresh in
    let t = typed-more c.variables fresh c.literals h in
    typed-append vs (take i c.literals) (new ++ drop (suc i) c.literals) (typed-take vs i c.literals t) (typed-append vs new (drop (suc i) c.literals) g (typed-drop vs (suc i) c.literals t))

pub typed-at : (variables : List SimpleType) (ls : List Literal) (i : ℕ) (l : Literal) → AreTyped variables ls → slice_get ls i ≡ Some l → IsTypedLiteral variables l
typed-at variables [] i l h e = absurd (cc)
typed-at variables (k ∷ ls) zero l h e = let f : k ≡ l = cc in rw (← f) h.0
typed-at variables (k ∷ ls) (suc i) l h e = typed-at variables ls i l h.1 e

-- without fresh variables
pub no-fresh : (variables : List SimpleType) (ls : List Literal) → AreTyped variables ls → AreTyped (variables ++ []) ls
no-fresh variables ls h = typed-more variables [] ls h

-- literals in normal form
normal-append : (ls ks : List Literal) → AreNormal ls → AreNormal ks → AreNormal (ls ++ ks)
normal-append [] ks h g = g
normal-append (l ∷ ls) ks h g = (h.0, h.1, normal-append ls ks h.2 g)

normal-take : (n : ℕ) (ls : List Literal) → AreNormal ls → AreNormal (take n ls)
normal-take zero ls h = tt
normal-take (suc n) [] h = tt
normal-take (suc n) (l ∷ ls) h = (h.0, h.1, normal-take n ls h.2)

normal-drop : (n : ℕ) (ls : List Literal) → AreNormal ls → AreNormal (drop n ls)
normal-drop zero ls h = h
normal-drop (suc n) [] h = tt
normal-drop (suc n) (l ∷ ls) h = normal-drop n ls h.2

pub normal-placed : (ls : List Literal) (i : ℕ) (new : List Literal) → AreNormal ls → AreNormal new → AreNormal (with_literals ls i new)
normal-placed ls i new h g = normal-append (take i ls) (new ++ drop (suc i) ls) (normal-take i ls h) (normal-append new (drop (suc i) ls) g (normal-drop (suc i) ls h))

pub normal-at : (ls : List Literal) (i : ℕ) (l : Literal) → AreNormal ls → slice_get ls i ≡ Some l → (normal_form l.left ≡ l.left) × (normal_form l.right ≡ l.right)
normal-at [] i l h e = absurd (cc)
normal-at (k ∷ ls) zero l h e = let f : k ≡ l = cc in rw (← f) (h.0, h.1)
normal-at (k ∷ ls) (suc i) l h e = normal-at ls i l h.2 e

-- literals among others
same-bool : (b : Bool) → beq b b ≡ true
same-bool true = refl
same-bool false = refl

pub same_literal-refl : (l : Literal) → same_literal l l ≡ true
same_literal-refl l = rw (same-bool l.positive, same_tree-refl l.left, same_tree-refl l.right) refl

or-true : (b : Bool) → (b || true) ≡ true
or-true true = refl
or-true false = refl

pub same_literal-turned : (l : Literal) → same_literal l (turned l) ≡ true
same_literal-turned l = rw (same-bool l.positive, same_tree-refl l.left, same_tree-refl l.right) (or-true (same_tree l.left l.right && same_tree l.right l.left))

or-second : (b c : Bool) → c ≡ true → (b || c) ≡ true
or-second true c h = refl
or-second false c h = h

or-first : (b c : Bool) → b ≡ true → (b || c) ≡ true
or-first b c h = rw h refl

among-more : (ls ks : List Literal) (k : Literal) → AreAmong ls ks → AreAmong ls (k ∷ ks)
among-more [] ks k h = tt
among-more (l ∷ ls) ks k h = (or-second (same_literal l k) (list_any (same_literal l) ks) h.0, among-more ls ks k h.1)

pub among-themselves : (ls : List Literal) → AreAmong ls ls
among-themselves [] = tt
among-themselves (l ∷ ls) = (or-first (same_literal l l) (list_any (same_literal l) ls) (same_literal-refl l), among-more ls ls l (among-themselves ls))

-- where one is replaced by one that is the same, all are there
pub among-placed : (ls : List Literal) (i : ℕ) (l k : Literal) → slice_get ls i ≡ Some l → same_literal l k ≡ true → AreAmong ls (with_literals ls i (k ∷ []))
among-placed [] i l k e h = tt
among-placed (j ∷ ls) zero l k e h =
    let f : j ≡ l = cc in
    let g : same_literal j k ≡ true = rw f h in
    (or-first (same_literal j k) (list_any (same_literal j) ls) g, among-more ls ls k (among-themselves ls))
among-placed (j ∷ ls) (suc i) l k e h = (or-first (same_literal j j) _ (same_literal-refl j), among-more ls _ j (among-placed ls i l k e h))
