-- What is so of all terms of two clauses is so of all terms of a step.
use Rattle.std.proofs.Common.{ℕ, zero, suc, ◌≡◌, List, [], ◌∷◌, ◌++◌, length, map, take, drop, slice_get, Option, Some, None, refl, sym, subst}
use Rattle.std.specs.Option.{option_and_then}
use Rattle.leo_q0.specs.Terms.{SimpleType}
use Rattle.leo_terms.specs.Tree.{Tree, variable, bound, symbol, app, lam, logic, absent}
use Rattle.leo_clause.specs.declared.record.Side.{Side}
use Rattle.leo_clause.specs.declared.record.Side.TheVariants.{Left, Right}
use Rattle.leo_clause.specs.Trees.{Literal, ClauseTree}
use Rattle.leo_kernel.specs.Conclusions.{paramodulant, with_literals}
use Rattle.leo_kernel.specs.Places.{child, replaced_at, replaced_in, shifted, shifted_literal, subterm, with_child}
use Rattle.leo_kernel.specs.Shapes.{other_side_of, side_of, unequal}
use Rattle.leo_kernel.specs.Symbols.{LacksSymbol, LiteralsLackSymbol}
use Rattle.leo_kernel.proofs.MovedTerms.{present-same, subterm-shifted}
use Rattle.leo_para.specs.Laws.{DueMembersAddNoBase, DueMembersAddNoSymbol}
use Rattle.leo_para.specs.Members.{due_members}
use Rattle.leo_para.specs.Occurring.{LiteralsLackBase, TermLacksBase, TypesLackBase}
use Rattle.leo_para.proofs.Finding.{in-get, is-due}
use Rattle.leo_para.proofs.Keeping.{side-moved}
use Rattle.leo_para.proofs.Leading.{places-lead}

some-value : {X : Type 0} {x y : X} → Some x ≡ Some y → x ≡ y
some-value e = cc

-- a property of terms that goes to children, comes with another child, and is kept where variables are moved
pub record Goes (P : Tree → Type 0) : Type 0 where
  pub down : (n : ℕ) (t u : Tree) → child n t ≡ Some u → P t → P u
  pub up : (n : ℕ) (change : Tree → Tree) (t u : Tree) → child n t ≡ Some u → P t → P (change u) → P (with_child n change t)
  pub along : (n : ℕ) (t : Tree) → P t → P (shifted n t)

abbrev AllTerms : (Tree → Type 0) → List Literal → Type 0
AllTerms P [] = Unit {0}
AllTerms P (l ∷ ls) = P l.left × P l.right × AllTerms P ls

module _ (P : Tree → Type 0) where
  all-append : (ls ks : List Literal) → AllTerms P ls → AllTerms P ks → AllTerms P (ls ++ ks)
  all-append [] ks h k = k
  all-append (l ∷ ls) ks h k = (h.0, h.1, all-append ls ks h.2 k)

  all-take : (n : ℕ) (ls : List Literal) → AllTerms P ls → AllTerms P (take n ls)
  all-take zero ls h = tt
  all-take (suc n) [] h = tt
  all-take (suc n) (l ∷ ls) h = (h.0, h.1, all-take n ls h.2)

  all-drop : (n : ℕ) (ls : List Literal) → AllTerms P ls → AllTerms P (drop n ls)
  all-drop zero ls h = h
  all-drop (suc n) [] h = tt
  all-drop (suc n) (l ∷ ls) h = all-drop n ls h.2

  all-placed : (ls : List Literal) (i : ℕ) (new : List Literal) → AllTerms P ls → AllTerms P new → AllTerms P (with_literals ls i new)
  all-placed ls i new h k = all-append (take i ls) (new ++ drop (suc i) ls) (all-take i ls h) (all-append new (drop (suc i) ls) k (all-drop (suc i) ls h))

  all-get : (ls : List Literal) (i : ℕ) (l : Literal) → slice_get ls i ≡ Some l → AllTerms P ls → P l.left × P l.right
  all-get [] i l e h = absurd (cc)
  all-get (k ∷ ls) zero l e h = subst (λ (x : Literal). P x.left × P x.right) (some-value e) (h.0, h.1)
  all-get (k ∷ ls) (suc i) l e h = all-get ls i l e h.2

  side-all : (s : Side) (l : Literal) → P l.left × P l.right → P (side_of s l)
  side-all Left l h = h.0
  side-all Right l h = h.1

  other-all : (s : Side) (l : Literal) → P l.left × P l.right → P (other_side_of s l)
  other-all Left l h = h.1
  other-all Right l h = h.0

module _ (P : Tree → Type 0) (g : Goes P) where
  at-path : (path : List ℕ) (t u : Tree) → subterm path t ≡ Some u → P t → P u
  at-path [] t u e h = subst P (some-value e) h
  at-path (n ∷ path) t u e h = go (child n t) refl e (λ a x. at-path path a u x)
    where
      go : (o : Option Tree) → child n t ≡ o → option_and_then (subterm path) o ≡ Some u → ((a : Tree) → subterm path a ≡ Some u → P a → P u) → P u
      go None f x inner = absurd (cc)
      go (Some a) f x inner = inner a x (g.down n t a f h)

  replaced : (path : List ℕ) (r t u : Tree) → subterm path t ≡ Some u → P t → P r → P (replaced_at path r t)
  replaced [] r t u e h k = k
  replaced (n ∷ path) r t u e h k = go (child n t) refl e (λ a x p. replaced path r a u x p k)
    where
      go : (o : Option Tree) → child n t ≡ o → option_and_then (subterm path) o ≡ Some u → ((a : Tree) → subterm path a ≡ Some u → P a → P (replaced_at path r a)) → P (with_child n (replaced_at path r) t)
      go None f x inner = absurd (cc)
      go (Some a) f x inner = g.up n (replaced_at path r) t a f h (inner a x (g.down n t a f h))

  replaced-literal : (side : Side) (path : List ℕ) (r u : Tree) (l : Literal) → subterm path (side_of side l) ≡ Some u → P l.left × P l.right → P r → P (replaced_in side path r l).left × P (replaced_in side path r l).right
  replaced-literal Left path r u l e h k = (replaced path r l.left u e h.0 k, h.1)
  replaced-literal Right path r u l e h k = (h.0, replaced path r l.right u e h.1 k)

  all-moved : (n : ℕ) (ls : List Literal) → AllTerms P ls → AllTerms P (map (shifted_literal n) ls)
  all-moved n [] h = tt
  all-moved n (l ∷ ls) h = (g.along n l.left h.0, g.along n l.right h.1, all-moved n ls h.2)

  all-concluded : (source target : ClauseTree) (i : ℕ) (l : Literal) (s : Side) (j : ℕ) (k : Literal) (side : Side) (path : List ℕ) (t : Tree) → AllTerms P source.literals → AllTerms P target.literals →
      slice_get source.literals i ≡ Some l → slice_get target.literals j ≡ Some k → subterm path (side_of side k) ≡ Some t → AllTerms P (paramodulant source i l s target j k side path t).literals
  all-concluded source target i l s j k side path t p q at there lead =
      let n = length source.variables in
      let h = all-get P source.literals i l at p in
      let f = all-get P target.literals j k there q in
      let moved : subterm path (side_of side (shifted_literal n k)) ≡ Some (shifted n t) = subst (λ x. subterm path x ≡ Some (shifted n t)) (sym (side-moved side n k)) (subterm-shifted n path (side_of side k) t lead) in
      let new = replaced-literal side path (other_side_of s l) (shifted n t) (shifted_literal n k) moved (g.along n k.left f.0, g.along n k.right f.1) (other-all P s l h) in
      let stood : P t = at-path path (side_of side k) t lead (side-all P side k f) in
      all-append P (with_literals source.literals i []) (with_literals (map (shifted_literal n) target.literals) j (replaced_in side path (other_side_of s l) (shifted_literal n k) ∷ []) ++ unequal (side_of s l) (shifted n t) ∷ [])
      (all-placed P source.literals i [] p tt)
      (all-append P (with_literals (map (shifted_literal n) target.literals) j (replaced_in side path (other_side_of s l) (shifted_literal n k) ∷ [])) (unequal (side_of s l) (shifted n t) ∷ [])
      (all-placed P (map (shifted_literal n) target.literals) j (replaced_in side path (other_side_of s l) (shifted_literal n k) ∷ []) (all-moved n target.literals q) (new.0, new.1, tt))
      (side-all P s l h, g.along n t stood, tt))

-- symbols
module _ (s : ℕ) where
  symbol-down : (n : ℕ) (t u : Tree) → child n t ≡ Some u → LacksSymbol s t → LacksSymbol s u
  symbol-down zero (app f x) u e h = subst (LacksSymbol s) (some-value e) h.0
  symbol-down (suc zero) (app f x) u e h = subst (LacksSymbol s) (some-value e) h.1
  symbol-down (suc (suc n)) (app f x) u e h = absurd (cc)
  symbol-down zero (logic c x y) u e h = subst (LacksSymbol s) (present-same x u e) h.0
  symbol-down (suc zero) (logic c x y) u e h = subst (LacksSymbol s) (present-same y u e) h.1
  symbol-down (suc (suc n)) (logic c x y) u e h = absurd (cc)
  symbol-down n (variable m a) u e h = absurd (cc)
  symbol-down n (bound i a) u e h = absurd (cc)
  symbol-down n (symbol m a) u e h = absurd (cc)
  symbol-down n (lam a t) u e h = absurd (cc)
  symbol-down n absent u e h = absurd (cc)

  symbol-up : (n : ℕ) (change : Tree → Tree) (t u : Tree) → child n t ≡ Some u → LacksSymbol s t → LacksSymbol s (change u) → LacksSymbol s (with_child n change t)
  symbol-up zero change (app f x) u e h k = (subst (λ v. LacksSymbol s (change v)) (sym (some-value e)) k, h.1)
  symbol-up (suc zero) change (app f x) u e h k = (h.0, subst (λ v. LacksSymbol s (change v)) (sym (some-value e)) k)
  symbol-up (suc (suc n)) change (app f x) u e h k = h
  symbol-up zero change (logic c x y) u e h k = (subst (λ v. LacksSymbol s (change v)) (sym (present-same x u e)) k, h.1)
  symbol-up (suc zero) change (logic c x y) u e h k = (h.0, subst (λ v. LacksSymbol s (change v)) (sym (present-same y u e)) k)
  symbol-up (suc (suc n)) change (logic c x y) u e h k = h
  symbol-up n change (variable m a) u e h k = h
  symbol-up n change (bound i a) u e h k = h
  symbol-up n change (symbol m a) u e h k = h
  symbol-up n change (lam a t) u e h k = h
  symbol-up n change absent u e h k = h

  symbol-along : (n : ℕ) (t : Tree) → LacksSymbol s t → LacksSymbol s (shifted n t)
  symbol-along n (variable m a) h = tt
  symbol-along n (bound i a) h = tt
  symbol-along n (symbol m a) h = h
  symbol-along n (app f x) h = (symbol-along n f h.0, symbol-along n x h.1)
  symbol-along n (lam a t) h = symbol-along n t h
  symbol-along n (logic c x y) h = (symbol-along n x h.0, symbol-along n y h.1)
  symbol-along n absent h = tt

  symbols-in : (ls : List Literal) → LiteralsLackSymbol s ls → AllTerms (LacksSymbol s) ls
  symbols-in [] h = tt
  symbols-in (l ∷ ls) h = (h.0, h.1, symbols-in ls h.2)

  symbols-out : (ls : List Literal) → AllTerms (LacksSymbol s) ls → LiteralsLackSymbol s ls
  symbols-out [] h = tt
  symbols-out (l ∷ ls) h = (h.0, h.1, symbols-out ls h.2)

pub no-symbol : DueMembersAddNoSymbol
no-symbol source target s p q n m e =
    let d = is-due source target m (in-get (due_members source target) n m e) in
    symbols-out s _ (all-concluded (LacksSymbol s) (record { down = symbol-down s; up = symbol-up s; along = symbol-along s }) source target m.literal m.equation m.side m.place m.target m.place_side m.path m.term
    (symbols-in s source.literals p) (symbols-in s target.literals q) d.equation_at d.target_at (places-lead (side_of m.place_side m.target) m.path m.term d.place_in))

-- base types
module _ (b : ℕ) where
  base-down : (n : ℕ) (t u : Tree) → child n t ≡ Some u → TermLacksBase b t → TermLacksBase b u
  base-down zero (app f x) u e h = subst (TermLacksBase b) (some-value e) h.0
  base-down (suc zero) (app f x) u e h = subst (TermLacksBase b) (some-value e) h.1
  base-down (suc (suc n)) (app f x) u e h = absurd (cc)
  base-down zero (logic c x y) u e h = subst (TermLacksBase b) (present-same x u e) h.1
  base-down (suc zero) (logic c x y) u e h = subst (TermLacksBase b) (present-same y u e) h.2
  base-down (suc (suc n)) (logic c x y) u e h = absurd (cc)
  base-down n (variable m a) u e h = absurd (cc)
  base-down n (bound i a) u e h = absurd (cc)
  base-down n (symbol m a) u e h = absurd (cc)
  base-down n (lam a t) u e h = absurd (cc)
  base-down n absent u e h = absurd (cc)

  base-up : (n : ℕ) (change : Tree → Tree) (t u : Tree) → child n t ≡ Some u → TermLacksBase b t → TermLacksBase b (change u) → TermLacksBase b (with_child n change t)
  base-up zero change (app f x) u e h k = (subst (λ v. TermLacksBase b (change v)) (sym (some-value e)) k, h.1)
  base-up (suc zero) change (app f x) u e h k = (h.0, subst (λ v. TermLacksBase b (change v)) (sym (some-value e)) k)
  base-up (suc (suc n)) change (app f x) u e h k = h
  base-up zero change (logic c x y) u e h k = (h.0, subst (λ v. TermLacksBase b (change v)) (sym (present-same x u e)) k, h.2)
  base-up (suc zero) change (logic c x y) u e h k = (h.0, h.1, subst (λ v. TermLacksBase b (change v)) (sym (present-same y u e)) k)
  base-up (suc (suc n)) change (logic c x y) u e h k = h
  base-up n change (variable m a) u e h k = h
  base-up n change (bound i a) u e h k = h
  base-up n change (symbol m a) u e h k = h
  base-up n change (lam a t) u e h k = h
  base-up n change absent u e h k = h

  base-along : (n : ℕ) (t : Tree) → TermLacksBase b t → TermLacksBase b (shifted n t)
  base-along n (variable m a) h = h
  base-along n (bound i a) h = h
  base-along n (symbol m a) h = h
  base-along n (app f x) h = (base-along n f h.0, base-along n x h.1)
  base-along n (lam a t) h = (h.0, base-along n t h.1)
  base-along n (logic c x y) h = (h.0, base-along n x h.1, base-along n y h.2)
  base-along n absent h = tt

  bases-in : (ls : List Literal) → LiteralsLackBase b ls → AllTerms (TermLacksBase b) ls
  bases-in [] h = tt
  bases-in (l ∷ ls) h = (h.0, h.1, bases-in ls h.2)

  bases-out : (ls : List Literal) → AllTerms (TermLacksBase b) ls → LiteralsLackBase b ls
  bases-out [] h = tt
  bases-out (l ∷ ls) h = (h.0, h.1, bases-out ls h.2)

  types-append : (types more : List SimpleType) → TypesLackBase b types → TypesLackBase b more → TypesLackBase b (types ++ more)
  types-append [] more h k = k
  types-append (a ∷ types) more h k = (h.0, types-append types more h.1 k)

pub no-base : DueMembersAddNoBase
no-base source target b p q n m e =
    let d = is-due source target m (in-get (due_members source target) n m e) in (
      types-append b source.variables target.variables p.0 q.0,
      bases-out b _ (all-concluded (TermLacksBase b) (record { down = base-down b; up = base-up b; along = base-along b }) source target m.literal m.equation m.side m.place m.target m.place_side m.path m.term
          (bases-in b source.literals p.1) (bases-in b target.literals q.1) d.equation_at d.target_at (places-lead (side_of m.place_side m.target) m.path m.term d.place_in)),
    )
