-- Terms whose variables get new numbers.
use Rattle.std.proofs.Common.{ℕ, zero, suc, nat_eq, nat_lt, ◌≡◌, ◌+◌, ◌≤◌, Bool, true, false, cond, ◌||◌, List, [], ◌∷◌, ◌++◌, map, slice_get, Option, Some, None, refl, sym, ◌∙◌, ap, arith}
use Rattle.std.proofs.lemmas.Bool.Decides.{nat_tests}
use Rattle.std.specs.Bool.{if◌then◌else◌}
use Rattle.std.specs.List.{list_any}
use Rattle.std.specs.Prelude.{length, position, not}
use Rattle.std.specs.List.{position_or_len}
use Rattle.std.proofs.lemmas.Option.{slice_get_within}
use Rattle.leo_q0.specs.Terms.{SimpleType}
use Rattle.leo_terms.specs.Tree.{codomain, Tree, variable, bound, symbol, app, lam, logic, absent, type_of, substituted, IsGiven}
use Rattle.leo_clause.specs.Trees.{Literal}
use Rattle.leo_clause.specs.Typed.{IsOver, IsTypedLiteral, AreTyped}
use Rattle.leo_clause.specs.Arranging.{firsts, occurring, occurring_in, place_in, renumbered, renumbered_literal, variable_type}
use Rattle.leo_clause.specs.Renaming.{AreSeen, AreBelow, AreNumbered}
use Rattle.leo_clause.proofs.Seen.{AreSeen-met}

-- what is seen in both parts of a list
pub AreSeen-parts : (xs ys seen : List ℕ) → AreSeen seen (xs ++ ys) → AreSeen seen xs × AreSeen seen ys
AreSeen-parts [] ys seen h = (tt, h)
AreSeen-parts (x ∷ xs) ys seen h = let p = AreSeen-parts xs ys seen h.1 in ((h.0, p.0), p.1)

pub AreSeen-both : (xs ys seen : List ℕ) → AreSeen seen xs → AreSeen seen ys → AreSeen seen (xs ++ ys)
AreSeen-both [] ys seen h g = g
AreSeen-both (x ∷ xs) ys seen h g = (h.0, AreSeen-both xs ys seen h.1 g)

-- the item at a number's place is that number's
placed-step : {A : Type 0} (f : ℕ → A) (m n : ℕ) (ms : List ℕ) (b : Bool) → nat_eq n m ≡ b → (b || list_any (nat_eq n) ms) ≡ true → (list_any (nat_eq n) ms ≡ true → slice_get (map f ms) (place_in ms n) ≡ Some (f n)) → slice_get (f m ∷ map f ms) (if b then zero else suc (place_in ms n)) ≡ Some (f n)
placed-step f m n ms true e h later = let q : m ≡ n = grind (arith, nat_tests) in rw q refl
placed-step f m n ms false e h later = later h

pub placed : {A : Type 0} (f : ℕ → A) (ms : List ℕ) (n : ℕ) → list_any (nat_eq n) ms ≡ true → slice_get (map f ms) (place_in ms n) ≡ Some (f n)
placed f [] n h = absurd (cc)
placed f (m ∷ ms) n h = placed-step f m n ms (nat_eq n m) refl h (placed f ms n)

pub type_of-renumbered : (order : List ℕ) (t : Tree) → type_of (renumbered order t) ≡ type_of t
type_of-renumbered order (variable n a) = refl
type_of-renumbered order (bound i a) = refl
type_of-renumbered order (symbol s a) = refl
type_of-renumbered order (app f x) = ap codomain (type_of-renumbered order f)
type_of-renumbered order (lam a t) = rw (type_of-renumbered order t) refl
type_of-renumbered order (logic c x y) = refl
type_of-renumbered order absent = refl

-- a renumbered term is one over the variables in their new order
over-variable : (order : List ℕ) (variables : List SimpleType) (n : ℕ) (a : SimpleType) → list_any (nat_eq n) order ≡ true → slice_get variables n ≡ Some a → slice_get (map (variable_type variables) order) (place_in order n) ≡ Some a
over-variable order variables n a h e =
    let p : variable_type variables n ≡ a = rw e refl in
    placed (variable_type variables) order n h ∙ ap Some p

pub over-renumbered : (order : List ℕ) (variables : List SimpleType) (depth : ℕ) (t : Tree) → AreSeen order (occurring t) → IsOver variables depth t → IsOver (map (variable_type variables) order) depth (renumbered order t)
over-renumbered order variables depth (variable n a) h o = over-variable order variables n a h.0 o
over-renumbered order variables depth (bound i a) h o = o
over-renumbered order variables depth (symbol s a) h o = tt
over-renumbered order variables depth (app f x) h o = let p = AreSeen-parts (occurring f) (occurring x) order h in (over-renumbered order variables depth f p.0 o.0, over-renumbered order variables depth x p.1 o.1)
over-renumbered order variables depth (lam a t) h o = over-renumbered order variables (depth + 1) t h o
over-renumbered order variables depth (logic c x y) h o = let p = AreSeen-parts (occurring x) (occurring y) order h in (over-renumbered order variables depth x p.0 o.0, over-renumbered order variables depth y p.1 o.1)
over-renumbered order variables depth absent h o = tt

pub substituted-renumbered : (order : List ℕ) (variables : List SimpleType) (given : List Tree) → AreNumbered order variables given → (t : Tree) (depth k : ℕ) → IsOver variables depth t → substituted given k t ≡ renumbered order t
substituted-renumbered order variables given g (variable n a) depth k o = rw (g n a o) refl
substituted-renumbered order variables given g (bound i a) depth k o = refl
substituted-renumbered order variables given g (symbol s a) depth k o = refl
substituted-renumbered order variables given g (app f x) depth k o = rw (substituted-renumbered order variables given g f depth k o.0, substituted-renumbered order variables given g x depth k o.1) refl
substituted-renumbered order variables given g (lam a t) depth k o = ap (lam a) (substituted-renumbered order variables given g t (depth + 1) (k + 1) o)
substituted-renumbered order variables given g (logic c x y) depth k o = rw (substituted-renumbered order variables given g x depth k o.0, substituted-renumbered order variables given g y depth k o.1) refl
substituted-renumbered order variables given g absent depth k o = refl

pub given-numbered : (order : List ℕ) (variables : List SimpleType) (given : List Tree) → AreNumbered order variables given → (t : Tree) (depth : ℕ) → IsOver variables depth t → IsGiven given t
given-numbered order variables given g (variable n a) depth o = rw (g n a o) refl
given-numbered order variables given g (bound i a) depth o = tt
given-numbered order variables given g (symbol s a) depth o = tt
given-numbered order variables given g (app f x) depth o = (given-numbered order variables given g f depth o.0, given-numbered order variables given g x depth o.1)
given-numbered order variables given g (lam a t) depth o = given-numbered order variables given g t (depth + 1) o
given-numbered order variables given g (logic c x y) depth o = (given-numbered order variables given g x depth o.0, given-numbered order variables given g y depth o.1)
given-numbered order variables given g absent depth o = tt

-- renumbered literals are typed over the variables in their new order
typed-renumbered : (order : List ℕ) (variables : List SimpleType) (ls : List Literal) → AreSeen order (occurring_in ls) → AreTyped variables ls → AreTyped (map (variable_type variables) order) (map (renumbered_literal order) ls)
typed-renumbered order variables [] h t = tt
typed-renumbered order variables (l ∷ ls) h t =
    let p = AreSeen-parts (occurring l.left ++ occurring l.right) (occurring_in ls) order h in
    let q = AreSeen-parts (occurring l.left) (occurring l.right) order p.0 in (
      record {
        left_over = over-renumbered order variables 0 l.left q.0 t.0.left_over;
        right_over = over-renumbered order variables 0 l.right q.1 t.0.right_over;
        same_type = type_of-renumbered order l.left ∙ t.0.same_type ∙ sym (type_of-renumbered order l.right);
      },
      typed-renumbered order variables ls p.1 t.1,
    )

pub typed-numbered : (variables : List SimpleType) (ls : List Literal) → AreTyped variables ls → AreTyped (map (variable_type variables) (firsts nat_eq [] (occurring_in ls))) (map (renumbered_literal (firsts nat_eq [] (occurring_in ls))) ls)
typed-numbered variables ls t = typed-renumbered (firsts nat_eq [] (occurring_in ls)) variables ls (AreSeen-met (occurring_in ls) []) t

-- of typed literals those that are left are typed
typed-end : (variables : List SimpleType) (ls : List Literal) (l : Literal) → AreTyped variables ls → IsTypedLiteral variables l → AreTyped variables (ls ++ l ∷ [])
typed-end variables [] l t h = (h, tt)
typed-end variables (k ∷ ls) l t h = (t.0, typed-end variables ls l t.1 h)

typed-if : (variables : List SimpleType) (b : Bool) (xs ys : List Literal) → AreTyped variables xs → AreTyped variables ys → AreTyped variables (if b then xs else ys)
typed-if variables true xs ys p q = p
typed-if variables false xs ys p q = q

pub typed-firsts : (same : Literal → Literal → Bool) (variables : List SimpleType) (ls seen : List Literal) → AreTyped variables seen → AreTyped variables ls → AreTyped variables (firsts same seen ls)
typed-firsts same variables [] seen s t = s
typed-firsts same variables (l ∷ ls) seen s t =
    typed-if variables (list_any (same l) seen) (firsts same seen ls) (firsts same (seen ++ l ∷ []) ls) (typed-firsts same variables ls seen s t.1) (typed-firsts same variables ls (seen ++ l ∷ []) (typed-end variables seen l s t.0) t.1)

-- the variables of typed literals have types
below-parts : (n : ℕ) (xs ys : List ℕ) → AreBelow n xs → AreBelow n ys → AreBelow n (xs ++ ys)
below-parts n [] ys h g = g
below-parts n (x ∷ xs) ys h g = (h.0, below-parts n xs ys h.1 g)

below-over : (variables : List SimpleType) (depth : ℕ) (t : Tree) → IsOver variables depth t → AreBelow (length variables) (occurring t)
below-over variables depth (variable n a) o = (slice_get_within variables n a o, tt)
below-over variables depth (bound i a) o = tt
below-over variables depth (symbol s a) o = tt
below-over variables depth (app f x) o = below-parts (length variables) (occurring f) (occurring x) (below-over variables depth f o.0) (below-over variables depth x o.1)
below-over variables depth (lam a t) o = below-over variables (depth + 1) t o
below-over variables depth (logic c x y) o = below-parts (length variables) (occurring x) (occurring y) (below-over variables depth x o.0) (below-over variables depth y o.1)
below-over variables depth absent o = tt

below-literals : (variables : List SimpleType) (ls : List Literal) → AreTyped variables ls → AreBelow (length variables) (occurring_in ls)
below-literals variables [] t = tt
below-literals variables (l ∷ ls) t =
    below-parts (length variables) (occurring l.left ++ occurring l.right) (occurring_in ls) (below-parts (length variables) (occurring l.left) (occurring l.right) (below-over variables 0 l.left t.0.left_over) (below-over variables 0 l.right t.0.right_over)) (below-literals variables ls t.1)

below-if : (m : ℕ) (b : Bool) (xs ys : List ℕ) → AreBelow m xs → AreBelow m ys → AreBelow m (if b then xs else ys)
below-if m true xs ys p q = p
below-if m false xs ys p q = q

below-firsts : (m : ℕ) (ns seen : List ℕ) → AreBelow m seen → AreBelow m ns → AreBelow m (firsts nat_eq seen ns)
below-firsts m [] seen s t = s
below-firsts m (n ∷ ns) seen s t = below-if m (list_any (nat_eq n) seen) (firsts nat_eq seen ns) (firsts nat_eq (seen ++ n ∷ []) ns) (below-firsts m ns seen s t.1) (below-firsts m ns (seen ++ n ∷ []) (below-parts m seen (n ∷ []) s (t.0, tt)) t.1)

pub below-order : (variables : List SimpleType) (ls : List Literal) → AreTyped variables ls → AreBelow (length variables) (firsts nat_eq [] (occurring_in ls))
below-order variables ls t = below-firsts (length variables) (occurring_in ls) [] tt (below-literals variables ls t)

-- the place of a number, from its first position
place-step : (b : Bool) (x y : ℕ) → x ≡ y → cond (not b) (1 + x) 0 ≡ (if b then zero else suc y)
place-step true x y e = refl
place-step false x y e = omega arith

place-position : (n : ℕ) (ms : List ℕ) → position_or_len (nat_eq n) ms ≡ place_in ms n
place-position n [] = refl
place-position n (m ∷ ms) = place-step (nat_eq n m) (position_or_len (nat_eq n) ms) (place_in ms n) (place-position n ms)

place-within_step : (b : Bool) (x l : ℕ) → x ≤ l → (if b then zero else suc x) ≤ suc l
place-within_step true x l h = omega arith
place-within_step false x l h = omega arith

place-within : (n : ℕ) (ms : List ℕ) → place_in ms n ≤ length ms
place-within n [] = omega arith
place-within n (m ∷ ms) = place-within_step (nat_eq n m) (place_in ms n) (length ms) (place-within n ms)

found-some : (b : Bool) (k p : ℕ) → Some p ≡ cond b (Some k) None → p ≡ k
found-some true k p h = cc
found-some false k p h = absurd (cc)

found-none : (b : Bool) (k : ℕ) → ◌≡◌ {A = Option ℕ} None (cond b (Some k) None) → b ≡ false
found-none true k h = absurd (cc)
found-none false k h = refl

pub place-some : (n p : ℕ) (ms : List ℕ) → Some p ≡ position (nat_eq n) ms → p ≡ place_in ms n
place-some n p ms h = found-some (nat_lt (position_or_len (nat_eq n) ms) (length ms)) (position_or_len (nat_eq n) ms) p h ∙ place-position n ms

pub place-none : (n : ℕ) (ms : List ℕ) → None ≡ position (nat_eq n) ms → length ms ≡ place_in ms n
place-none n ms h =
    let b : nat_lt (position_or_len (nat_eq n) ms) (length ms) ≡ false = found-none (nat_lt (position_or_len (nat_eq n) ms) (length ms)) (position_or_len (nat_eq n) ms) h in
    let l : length ms ≤ position_or_len (nat_eq n) ms = grind (arith, nat_tests) in
    let e = place-position n ms in
    let w = place-within n ms in
    omega arith
