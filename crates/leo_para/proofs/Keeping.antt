-- What is typed stays typed where variables are moved and a term is replaced.
use Rattle.std.proofs.Common.{ℕ, zero, suc, ◌≡◌, ◌∙◌, ◌+◌, List, [], ◌∷◌, ◌++◌, length, map, take, drop, slice_get, Option, Some, None, refl, sym, ap, arith}
use Rattle.std.specs.Option.{option_and_then}
use Rattle.leo_q0.specs.Terms.{SimpleType, arrow}
use Rattle.leo_terms.specs.Tree.{Tree, variable, bound, symbol, app, lam, logic, absent, codomain, type_of}
use Rattle.leo_clause.specs.declared.record.Side.{Side}
use Rattle.leo_clause.specs.declared.record.Side.TheVariants.{Left, Right}
use Rattle.leo_clause.specs.Trees.{Literal, ClauseTree}
use Rattle.leo_clause.specs.Typed.{AreTyped, IsOver, IsTypedLiteral}
use Rattle.leo_kernel.specs.Conclusions.{paramodulant, with_literals}
use Rattle.leo_kernel.specs.Places.{child, replaced_at, replaced_in, shifted, shifted_literal, subterm, with_child}
use Rattle.leo_kernel.specs.Shapes.{other_side_of, side_of, unequal}
use Rattle.leo_kernel.proofs.MovedTerms.{present-same, subterm-shifted}

get-front : {X : Type 0} (xs ys : List X) (n : ℕ) (x : X) → slice_get xs n ≡ Some x → slice_get (xs ++ ys) n ≡ Some x
get-front [] ys n x e = (let f : ⊥ = cc in absurd f)
get-front (y ∷ xs) ys zero x e = e
get-front (y ∷ xs) ys (suc n) x e = get-front xs ys n x e

get-back : {X : Type 0} (xs ys : List X) (n : ℕ) (x : X) → slice_get ys n ≡ Some x → slice_get (xs ++ ys) (length xs + n) ≡ Some x
get-back [] ys n x e = let s : 0 + n ≡ n = omega arith in rw s e
get-back (y ∷ xs) ys n x e = let s : suc (length xs) + n ≡ suc (length xs + n) = omega arith in rw s (get-back xs ys n x e)

some-value : {X : Type 0} {x y : X} → Some x ≡ Some y → x ≡ y
some-value e = cc

-- variables
over-more : (vs ws : List SimpleType) (t : Tree) (d : ℕ) → IsOver vs d t → IsOver (vs ++ ws) d t
over-more vs ws (variable n a) d h = get-front vs ws n a h
over-more vs ws (bound i a) d h = h
over-more vs ws (symbol s a) d h = tt
over-more vs ws (app f x) d h = (over-more vs ws f d h.0, over-more vs ws x d h.1)
over-more vs ws (lam a t) d h = over-more vs ws t (d + 1) h
over-more vs ws (logic c x y) d h = (over-more vs ws x d h.0, over-more vs ws y d h.1)
over-more vs ws absent d h = tt

over-moved : (vs ws : List SimpleType) (t : Tree) (d : ℕ) → IsOver ws d t → IsOver (vs ++ ws) d (shifted (length vs) t)
over-moved vs ws (variable n a) d h = get-back vs ws n a h
over-moved vs ws (bound i a) d h = h
over-moved vs ws (symbol s a) d h = tt
over-moved vs ws (app f x) d h = (over-moved vs ws f d h.0, over-moved vs ws x d h.1)
over-moved vs ws (lam a t) d h = over-moved vs ws t (d + 1) h
over-moved vs ws (logic c x y) d h = (over-moved vs ws x d h.0, over-moved vs ws y d h.1)
over-moved vs ws absent d h = tt

pub type-moved : (n : ℕ) (t : Tree) → type_of (shifted n t) ≡ type_of t
type-moved n (variable m a) = refl
type-moved n (bound i a) = refl
type-moved n (symbol s a) = refl
type-moved n (app f x) = ap codomain (type-moved n f)
type-moved n (lam a t) = ap (arrow a) (type-moved n t)
type-moved n (logic c x y) = refl
type-moved n absent = refl

-- children, and what stands at a path
module _ (vs : List SimpleType) where
  child-over : (n : ℕ) (s u : Tree) → child n s ≡ Some u → IsOver vs 0 s → IsOver vs 0 u
  child-over zero (app f x) u e h = let g : f ≡ u = some-value e in rw (← g) h.0
  child-over (suc zero) (app f x) u e h = let g : x ≡ u = some-value e in rw (← g) h.1
  child-over (suc (suc n)) (app f x) u e h = (let g : ⊥ = cc in absurd g)
  child-over zero (logic c x y) u e h = let g : x ≡ u = present-same x u e in rw (← g) h.0
  child-over (suc zero) (logic c x y) u e h = let g : y ≡ u = present-same y u e in rw (← g) h.1
  child-over (suc (suc n)) (logic c x y) u e h = (let g : ⊥ = cc in absurd g)
  child-over n (variable m a) u e h = (let g : ⊥ = cc in absurd g)
  child-over n (bound i a) u e h = (let g : ⊥ = cc in absurd g)
  child-over n (symbol m a) u e h = (let g : ⊥ = cc in absurd g)
  child-over n (lam a t) u e h = (let g : ⊥ = cc in absurd g)
  child-over n absent u e h = (let g : ⊥ = cc in absurd g)

  subterm-over : (path : List ℕ) (s t : Tree) → subterm path s ≡ Some t → IsOver vs 0 s → IsOver vs 0 t
  subterm-over [] s t e h = let f : s ≡ t = some-value e in rw (← f) h
  subterm-over (n ∷ path) s t e h = go (child n s) refl e (λ u g p. subterm-over path u t g p)
    where
      go : (o : Option Tree) → child n s ≡ o → option_and_then (subterm path) o ≡ Some t → ((u : Tree) → subterm path u ≡ Some t → IsOver vs 0 u → IsOver vs 0 t) → IsOver vs 0 t
      go None f g inner = (let z : ⊥ = cc in absurd z)
      go (Some u) f g inner = inner u g (child-over n s u f h)

  child-changed : (n : ℕ) (change : Tree → Tree) (s u : Tree) → child n s ≡ Some u → IsOver vs 0 s → IsOver vs 0 (change u) → type_of (change u) ≡ type_of u → IsOver vs 0 (with_child n change s) × (type_of (with_child n change s) ≡ type_of s)
  child-changed zero change (app f x) u e h k t = let g : f ≡ u = some-value e in ((rw g k, h.1), rw g (ap codomain t))
  child-changed (suc zero) change (app f x) u e h k t = let g : x ≡ u = some-value e in ((h.0, rw g k), refl)
  child-changed (suc (suc n)) change (app f x) u e h k t = (h, refl)
  child-changed zero change (logic c x y) u e h k t = let g : x ≡ u = present-same x u e in ((rw g k, h.1), refl)
  child-changed (suc zero) change (logic c x y) u e h k t = let g : y ≡ u = present-same y u e in ((h.0, rw g k), refl)
  child-changed (suc (suc n)) change (logic c x y) u e h k t = (h, refl)
  child-changed n change (variable m a) u e h k t = (h, refl)
  child-changed n change (bound i a) u e h k t = (h, refl)
  child-changed n change (symbol m a) u e h k t = (h, refl)
  child-changed n change (lam a x) u e h k t = (h, refl)
  child-changed n change absent u e h k t = (h, refl)

  replaced-over : (path : List ℕ) (r s t : Tree) → subterm path s ≡ Some t → IsOver vs 0 s → IsOver vs 0 r → type_of r ≡ type_of t → IsOver vs 0 (replaced_at path r s) × (type_of (replaced_at path r s) ≡ type_of s)
  replaced-over [] r s t e h k f = let g : s ≡ t = some-value e in (k, rw g f)
  replaced-over (n ∷ path) r s t e h k f = go (child n s) refl e (λ u g p. replaced-over path r u t g p k f)
    where
      go : (o : Option Tree) → child n s ≡ o → option_and_then (subterm path) o ≡ Some t → ((u : Tree) → subterm path u ≡ Some t → IsOver vs 0 u → IsOver vs 0 (replaced_at path r u) × (type_of (replaced_at path r u) ≡ type_of u)) → IsOver vs 0 (with_child n (replaced_at path r) s) × (type_of (with_child n (replaced_at path r) s) ≡ type_of s)
      go None x g inner = (let z : ⊥ = cc in absurd z)
      go (Some u) x g inner = let p = inner u g (child-over n s u x h) in child-changed n (replaced_at path r) s u x h p.0 p.1

  -- literals
  typed-append : (ls ks : List Literal) → AreTyped vs ls → AreTyped vs ks → AreTyped vs (ls ++ ks)
  typed-append [] ks h k = k
  typed-append (l ∷ ls) ks h k = (h.0, typed-append ls ks h.1 k)

  typed-take : (n : ℕ) (ls : List Literal) → AreTyped vs ls → AreTyped vs (take n ls)
  typed-take zero ls h = tt
  typed-take (suc n) [] h = tt
  typed-take (suc n) (l ∷ ls) h = (h.0, typed-take n ls h.1)

  typed-drop : (n : ℕ) (ls : List Literal) → AreTyped vs ls → AreTyped vs (drop n ls)
  typed-drop zero ls h = h
  typed-drop (suc n) [] h = tt
  typed-drop (suc n) (l ∷ ls) h = typed-drop n ls h.1

  typed-placed : (ls : List Literal) (i : ℕ) (new : List Literal) → AreTyped vs ls → AreTyped vs new → AreTyped vs (with_literals ls i new)
  typed-placed ls i new h k = typed-append (take i ls) (new ++ drop (suc i) ls) (typed-take i ls h) (typed-append new (drop (suc i) ls) k (typed-drop (suc i) ls h))

  pub typed-get : (ls : List Literal) (i : ℕ) (l : Literal) → slice_get ls i ≡ Some l → AreTyped vs ls → IsTypedLiteral vs l
  typed-get [] i l e h = (let f : ⊥ = cc in absurd f)
  typed-get (k ∷ ls) zero l e h = let f : k ≡ l = some-value e in rw (← f) h.0
  typed-get (k ∷ ls) (suc i) l e h = typed-get ls i l e h.1

  side-over : (s : Side) (l : Literal) → IsTypedLiteral vs l → IsOver vs 0 (side_of s l)
  side-over Left l h = h.left_over
  side-over Right l h = h.right_over

  other-over : (s : Side) (l : Literal) → IsTypedLiteral vs l → IsOver vs 0 (other_side_of s l)
  other-over Left l h = h.right_over
  other-over Right l h = h.left_over

  pub other-type : (s : Side) (l : Literal) → IsTypedLiteral vs l → type_of (other_side_of s l) ≡ type_of (side_of s l)
  other-type Left l h = sym h.same_type
  other-type Right l h = h.same_type

  replaced-typed : (side : Side) (path : List ℕ) (r t : Tree) (l : Literal) → IsTypedLiteral vs l → subterm path (side_of side l) ≡ Some t → IsOver vs 0 r → type_of r ≡ type_of t → IsTypedLiteral vs (replaced_in side path r l)
  replaced-typed Left path r t l h e k f = let p = replaced-over path r l.left t e h.left_over k f in record { left_over = p.0; right_over = h.right_over; same_type = p.1 ∙ h.same_type }
  replaced-typed Right path r t l h e k f = let p = replaced-over path r l.right t e h.right_over k f in record { left_over = h.left_over; right_over = p.0; same_type = h.same_type ∙ sym p.1 }

typed-more : (vs ws : List SimpleType) (ls : List Literal) → AreTyped vs ls → AreTyped (vs ++ ws) ls
typed-more vs ws [] h = tt
typed-more vs ws (l ∷ ls) h = (record { left_over = over-more vs ws l.left 0 h.0.left_over; right_over = over-more vs ws l.right 0 h.0.right_over; same_type = h.0.same_type }, typed-more vs ws ls h.1)

literal-moved : (vs ws : List SimpleType) (l : Literal) → IsTypedLiteral ws l → IsTypedLiteral (vs ++ ws) (shifted_literal (length vs) l)
literal-moved vs ws l h = record { left_over = over-moved vs ws l.left 0 h.left_over; right_over = over-moved vs ws l.right 0 h.right_over; same_type = type-moved (length vs) l.left ∙ h.same_type ∙ sym (type-moved (length vs) l.right) }

typed-moved : (vs ws : List SimpleType) (ls : List Literal) → AreTyped ws ls → AreTyped (vs ++ ws) (map (shifted_literal (length vs)) ls)
typed-moved vs ws [] h = tt
typed-moved vs ws (l ∷ ls) h = (literal-moved vs ws l h.0, typed-moved vs ws ls h.1)

pub side-moved : (side : Side) (n : ℕ) (l : Literal) → side_of side (shifted_literal n l) ≡ shifted n (side_of side l)
side-moved Left n l = refl
side-moved Right n l = refl

-- a paramodulant of typed clauses at a place of the equation's type
pub paramodulant-typed : (source target : ClauseTree) (i : ℕ) (l : Literal) (s : Side) (j : ℕ) (k : Literal) (side : Side) (path : List ℕ) (t : Tree) → AreTyped source.variables source.literals → AreTyped target.variables target.literals →
    slice_get source.literals i ≡ Some l → slice_get target.literals j ≡ Some k → subterm path (side_of side k) ≡ Some t → type_of (side_of s l) ≡ type_of t → AreTyped (source.variables ++ target.variables) (paramodulant source i l s target j k side path t).literals
paramodulant-typed source target i l s j k side path t p q at there lead types =
    let vs = source.variables in
    let ws = target.variables in
    let n = length source.variables in
    let p' = typed-more vs ws source.literals p in
    let h = typed-get (vs ++ ws) source.literals i l at p' in
    let g = typed-get ws target.literals j k there q in
    let moved : subterm path (side_of side (shifted_literal n k)) ≡ Some (shifted n t) = ap (subterm path) (side-moved side n k) ∙ subterm-shifted n path (side_of side k) t lead in
    let same : type_of (side_of s l) ≡ type_of (shifted n t) = types ∙ sym (type-moved n t) in
    let new = replaced-typed (vs ++ ws) side path (other_side_of s l) (shifted n t) (shifted_literal n k) (literal-moved vs ws k g) moved (other-over (vs ++ ws) s l h) (other-type (vs ++ ws) s l h ∙ same) in
    let last : IsTypedLiteral (vs ++ ws) (unequal (side_of s l) (shifted n t)) = record { left_over = side-over (vs ++ ws) s l h; right_over = over-moved vs ws t 0 (subterm-over ws path (side_of side k) t lead (side-over ws side k g)); same_type = same } in
    typed-append (vs ++ ws) (with_literals source.literals i []) (with_literals (map (shifted_literal n) target.literals) j (replaced_in side path (other_side_of s l) (shifted_literal n k) ∷ []) ++ unequal (side_of s l) (shifted n t) ∷ [])
    (typed-placed (vs ++ ws) source.literals i [] p' tt)
    (typed-append (vs ++ ws) (with_literals (map (shifted_literal n) target.literals) j (replaced_in side path (other_side_of s l) (shifted_literal n k) ∷ [])) (unequal (side_of s l) (shifted n t) ∷ [])
    (typed-placed (vs ++ ws) (map (shifted_literal n) target.literals) j (replaced_in side path (other_side_of s l) (shifted_literal n k) ∷ []) (typed-moved vs ws target.literals q) (new, tt))
    (last, tt))
