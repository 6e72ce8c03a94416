-- From what a clause says, what its instances say.
use Rattle.std.proofs.Common.{◌≡◌, ℕ, zero, suc, ◌+◌, ◌≤◌, Bool, true, false, List, [], ◌∷◌, length, map, slice_get, Option, Some, None, inr, refl, sym, ap, ◌∙◌, subst, arith}
use Rattle.leo_q0.specs.Terms.{SimpleType, Term, HasType, of_variable, IsFormula}
use Rattle.leo_q0.specs.Connectives.{equation, apply_two, or_term}
use Rattle.leo_q0.specs.Shapes.{shape}
use Rattle.leo_q0.specs.Derivations.{Derivable}
use Rattle.leo_q0.proofs.Equations.{carry}
use Rattle.leo_q0.proofs.Alpha.{alpha}
use Rattle.leo_q0.proofs.Fresh.{different}
use Rattle.leo_terms.specs.Tree.{Tree, variable, bound, symbol, app, lam, logic, absent, type_of, variable_given, substituted, IsOfTypeIfGiven, IsGiven}
use Rattle.leo_terms.proofs.TreeLemmas.{type_of-lifted}
use Rattle.std.proofs.lemmas.List.{length-map}
use Rattle.leo_terms.specs.Typing.{IsWellTyped}
use Rattle.leo_terms.specs.Decode.{decoded, IsFitting, given_terms, named}
use Rattle.leo_terms.proofs.CallerLemmas.{decoded_typed, substitution_decodes}
use Rattle.leo_clause.specs.Trees.{Literal}
use Rattle.leo_clause.specs.Typed.{IsOver}
use Rattle.leo_clause.specs.Renaming.{substituted_literal, AreGiven}
use Rattle.leo_clause.specs.Formulas.{signed}
use Rattle.leo_kernel.specs.Places.{shifted, shifted_literal}
use Rattle.leo_kernel.specs.Conditions as kernel
use Rattle.leo_simulation.proofs.Instances.{IsOpenFor, mapped, AreTermsFor, apart_instance}
use Rattle.leo_simulation.proofs.Fixed.{fixed_false, fixed_not, fixed_or, fixed_open, fixed_mapped}
use Rattle.leo_simulation.proofs.TreeInstances.{variables_from, decoded_open, decoded_avoids, moved_decoded, replaced_decoded, given_below}
use Rattle.leo_simulation.proofs.Sayings.{literal_said, clause_said, IsFine, AreFine, clause_formula, fitting-over, free_below, signed_shape, or_shape}

pub type_of-shifted : (by : ℕ) (t : Tree) → type_of (shifted by t) ≡ type_of t
type_of-shifted by (variable m a) = refl
type_of-shifted by (bound i a) = refl
type_of-shifted by (symbol m a) = refl
type_of-shifted by (app f x) = rw (type_of-shifted by f) refl
type_of-shifted by (lam a t) = rw (type_of-shifted by t) refl
type_of-shifted by (logic c x y) = refl
type_of-shifted by absent = refl

module _ (limit : ℕ) (two : 2 ≤ limit) where
  signed_open : (by : ℕ) (types : List SimpleType) (b : Bool) (a : SimpleType) (s t : Term) → IsOpenFor limit by types s → IsOpenFor limit by types t → IsOpenFor limit by types (signed b (equation a s t))
  signed_open by types true a s t p q = ((tt, p), q)
  signed_open by types false a s t p q = (fixed_open limit by two types fixed_not, ((tt, p), q))

  literal_open : (by : ℕ) (types : List SimpleType) (l : Literal) → by + length types ≤ limit → IsFine types l → IsOpenFor limit by types (literal_said limit (shifted_literal by l))
  literal_open by types l le h =
      signed_open by types l.positive (type_of (shifted by l.left)) (decoded limit (shifted by l.left)) (decoded limit (shifted by l.right))
      (decoded_open limit two by types 0 limit l.left (omega arith) le h.typed.left_over) (decoded_open limit two by types 0 limit l.right (omega arith) le h.typed.right_over)

  clause_open : (by : ℕ) (types : List SimpleType) (ls : List Literal) → by + length types ≤ limit → AreFine types ls → IsOpenFor limit by types (clause_said limit (map (shifted_literal by) ls))
  clause_open by types [] le h = fixed_open limit by two types fixed_false
  clause_open by types (l ∷ []) le h = literal_open by types l le h.0
  clause_open by types (l ∷ l' ∷ ls) le h = ((fixed_open limit by two types fixed_or, literal_open by types l le h.0), clause_open by types (l' ∷ ls) le h.1)

  signed_mapped : (first : ℕ) (ss : List Term) (b : Bool) (a : SimpleType) (s t : Term) → mapped limit first ss (signed b (equation a s t)) ≡ signed b (equation a (mapped limit first ss s) (mapped limit first ss t))
  signed_mapped first ss true a s t = refl
  signed_mapped first ss false a s t = rw (fixed_mapped limit first two ss fixed_not) refl

  or_mapped : (first : ℕ) (ss : List Term) (s t : Term) → mapped limit first ss (apply_two or_term s t) ≡ apply_two or_term (mapped limit first ss s) (mapped limit first ss t)
  or_mapped first ss s t = rw (fixed_mapped limit first two ss fixed_or) refl

  moved_literal : (by : ℕ) (types : List SimpleType) (l : Literal) → length types ≤ limit → IsFine types l →
      mapped limit 0 (map (decoded limit) (variables_from by types)) (literal_said limit l) ≡ literal_said limit (shifted_literal by l)
  moved_literal by types l le h =
      signed_mapped 0 (map (decoded limit) (variables_from by types)) l.positive (type_of l.left) (decoded limit l.left) (decoded limit l.right) ∙
      (let p = moved_decoded limit two by types 0 limit l.left (omega arith) le h.typed.left_over in
      let q = moved_decoded limit two by types 0 limit l.right (omega arith) le h.typed.right_over in
      rw (p, q, type_of-shifted by l.left) refl)

  moved_clause : (by : ℕ) (types : List SimpleType) (ls : List Literal) → length types ≤ limit → AreFine types ls →
      mapped limit 0 (map (decoded limit) (variables_from by types)) (clause_said limit ls) ≡ clause_said limit (map (shifted_literal by) ls)
  moved_clause by types [] le h = fixed_mapped limit 0 two (map (decoded limit) (variables_from by types)) fixed_false
  moved_clause by types (l ∷ []) le h = moved_literal by types l le h.0
  moved_clause by types (l ∷ l' ∷ ls) le h =
      or_mapped 0 (map (decoded limit) (variables_from by types)) (literal_said limit l) (clause_said limit (l' ∷ ls)) ∙
      (let p = moved_literal by types l le h.0 in let q = moved_clause by types (l' ∷ ls) le h.1 in rw (p, q) refl)

  variables_are_terms : (by count : ℕ) (first : ℕ) (types : List SimpleType) → first + count ≤ by → by + length types ≤ limit → AreTermsFor limit first count types (map (decoded limit) (variables_from by types))
  variables_are_terms by count first [] le small = tt
  variables_are_terms by count first (a ∷ types) le small =
      (of_variable (named by a), (λ v high. different v (named by a) (λ e. omega (arith, e, high, small))), inr le, variables_are_terms (suc by) count first types (omega (arith, le)) (omega (arith, small)))

  shifted-nothing : (t : Tree) → shifted 0 t ≡ t
  shifted-nothing (variable m a) = let e : 0 + m ≡ m = omega arith in rw e refl
  shifted-nothing (bound i a) = refl
  shifted-nothing (symbol m a) = refl
  shifted-nothing (app f x) = rw (shifted-nothing f, shifted-nothing x) refl
  shifted-nothing (lam a t) = rw (shifted-nothing t) refl
  shifted-nothing (logic c x y) = rw (shifted-nothing x, shifted-nothing y) refl
  shifted-nothing absent = refl

  unshifted : (ls : List Literal) → map (shifted_literal 0) ls ≡ ls
  unshifted [] = refl
  unshifted (l ∷ ls) = let p = shifted-nothing l.left in let q = shifted-nothing l.right in let r = unshifted ls in rw (p, q, r) refl

  module _ {H : List Term} where
    -- a clause whose variables were moved
    pub clause_moved : (by : ℕ) (types : List SimpleType) (ls : List Literal) → length types ≤ by → by + length types ≤ limit → AreFine types ls →
        Derivable H (clause_said limit ls) → Derivable H (clause_said limit (map (shifted_literal by) ls)) × IsFormula (clause_said limit (map (shifted_literal by) ls))
    clause_moved by types ls few small h d =
        let open_here : IsOpenFor limit 0 types (clause_said limit ls) = subst (λ ks. IsOpenFor limit 0 types (clause_said limit ks)) (unshifted ls) (clause_open 0 types ls (omega (arith, small)) h) in
        let terms = variables_are_terms by (length types) 0 types (omega (arith, few)) small in
        let all = apart_instance limit 0 (length types) types (map (decoded limit) (variables_from by types)) (clause_said limit ls) (omega arith) (omega (arith, small)) terms open_here (clause_formula types limit ls h) d in
        let e = moved_clause by types ls (omega (arith, small)) h in
        (subst (Derivable H) e all.0, subst IsFormula e all.1)

type_of-substituted : (given : List Tree) (k : ℕ) (t : Tree) → IsGiven given t → type_of (substituted given k t) ≡ type_of t
type_of-substituted given k (variable m a) h = found (slice_get given m) refl h
  where
    found : (o : Option Tree) → slice_get given m ≡ o → IsOfTypeIfGiven a o → type_of (variable_given k o m a) ≡ a
    found None e h = absurd h
    found (Some s) e h = type_of-lifted s 0 k ∙ h
type_of-substituted given k (bound i a) h = refl
type_of-substituted given k (symbol m a) h = refl
type_of-substituted given k (app f x) h = rw (type_of-substituted given k f h.0) refl
type_of-substituted given k (lam a t) h = rw (type_of-substituted given (k + 1) t h) refl
type_of-substituted given k (logic c x y) h = refl
type_of-substituted given k absent h = refl

-- each of these trees is well typed
abbrev pub AreWellTyped : List Tree → Type 0
AreWellTyped [] = Unit {0}
AreWellTyped (t ∷ ts) = IsWellTyped t × AreWellTyped ts

module _ (limit : ℕ) (two : 2 ≤ limit) (new : List SimpleType) where
  term_fits : (types : List SimpleType) (sigma : List Tree) → length new ≤ limit → kernel.AreTermsFor new types sigma → AreWellTyped sigma → (n : ℕ) (s : Tree) → slice_get sigma n ≡ Some s → IsWellTyped s × IsFitting limit limit s
  term_fits [] [] few h w n s e = cc
  term_fits [] (t ∷ ts) few h w n s e = absurd h
  term_fits (a ∷ types) [] few h w n s e = absurd h
  term_fits (a ∷ types) (t ∷ ts) few h w zero s e =
      subst (λ u. IsWellTyped u × IsFitting limit limit u) (some_value e) (w.0, fitting-over new 0 t limit limit few (omega arith) h.1)
    where
      some_value : {x y : Tree} → Some x ≡ Some y → x ≡ y
      some_value e = cc
  term_fits (a ∷ types) (t ∷ ts) few h w (suc n) s e = term_fits types ts few h.2 w.1 n s e

  same_length : (types : List SimpleType) (sigma : List Tree) → kernel.AreTermsFor new types sigma → length sigma ≡ length types
  same_length [] [] h = refl
  same_length [] (t ∷ ts) h = absurd h
  same_length (a ∷ types) [] h = absurd h
  same_length (a ∷ types) (t ∷ ts) h = ap suc (same_length types ts h.2)

  terms_decoded : (by count : ℕ) (types : List SimpleType) (sigma : List Tree) → length new ≤ by → by + count ≤ limit → kernel.AreTermsFor new types sigma → AreWellTyped sigma →
      AreTermsFor limit by count types (map (decoded limit) sigma)
  terms_decoded by count [] [] few small h w = tt
  terms_decoded by count [] (t ∷ ts) few small h w = absurd h
  terms_decoded by count (a ∷ types) [] few small h w = absurd h
  terms_decoded by count (a ∷ types) (t ∷ ts) few small h w = (
    subst (HasType (decoded limit t)) h.0 (decoded_typed t limit w.0),
    free_below new t limit (omega (arith, few, small)) w.0 h.1,
    decoded_avoids limit two new by count 0 limit t (omega arith) few small h.1,
    terms_decoded by count types ts few small h.2 w.1,
  )

  module _ (by : ℕ) (types : List SimpleType) (sigma : List Tree) (fits : kernel.AreTermsFor new types sigma) (typed : AreWellTyped sigma) (few : length new ≤ by) (small : by + length types ≤ limit) where
    tree_instance : (t : Tree) → IsWellTyped t → IsOver types 0 t → IsGiven sigma t →
        shape [] (mapped limit by (map (decoded limit) sigma) (decoded limit (shifted by t))) ≡ shape [] (decoded limit (substituted sigma 0 t))
    tree_instance t w o g =
        let same = same_length types sigma fits in
        let many : length types ≤ length (map (decoded limit) sigma) = rw (length-map sigma) (omega (arith, same)) in
        let within : length (map (decoded limit) sigma) ≤ limit = rw (length-map sigma) (omega (arith, same, small)) in
        let behind : by + length (map (decoded limit) sigma) ≤ limit = rw (length-map sigma) (omega (arith, same, small)) in
        let e = replaced_decoded limit two by types (map (decoded limit) sigma) (given_terms limit sigma) 0 limit t (omega arith) many within behind (given_below limit two sigma (omega (arith, same, small))) o in
        ap (shape []) e ∙
        substitution_decodes t sigma limit limit (omega (arith, same, small)) (omega arith) w g (fitting-over types 0 t limit limit (omega (arith, small)) (omega arith) o) (term_fits types sigma (omega (arith, few, small)) fits typed)

    literal_instance : (l : Literal) → IsFine types l → IsGiven sigma l.left → IsGiven sigma l.right →
        shape [] (mapped limit by (map (decoded limit) sigma) (literal_said limit (shifted_literal by l))) ≡ shape [] (literal_said limit (substituted_literal sigma l))
    literal_instance l h gl gr =
        let ss = map (decoded limit) sigma in
        let e = signed_mapped limit two by ss l.positive (type_of (shifted by l.left)) (decoded limit (shifted by l.left)) (decoded limit (shifted by l.right)) in
        let a : type_of (shifted by l.left) ≡ type_of (substituted sigma 0 l.left) = type_of-shifted by l.left ∙ sym (type_of-substituted sigma 0 l.left gl) in
        ap (shape []) e ∙
        (rw a (signed_shape l.positive (type_of (substituted sigma 0 l.left)) (mapped limit by ss (decoded limit (shifted by l.left))) (mapped limit by ss (decoded limit (shifted by l.right)))
        (decoded limit (substituted sigma 0 l.left)) (decoded limit (substituted sigma 0 l.right))
        (tree_instance l.left h.left_typed h.typed.left_over gl) (tree_instance l.right h.right_typed h.typed.right_over gr)))

    clause_instance_shape : (ls : List Literal) → AreFine types ls → AreGiven sigma ls →
        shape [] (mapped limit by (map (decoded limit) sigma) (clause_said limit (map (shifted_literal by) ls))) ≡ shape [] (clause_said limit (map (substituted_literal sigma) ls))
    clause_instance_shape [] h g = ap (shape []) (fixed_mapped limit by two (map (decoded limit) sigma) fixed_false)
    clause_instance_shape (l ∷ []) h g = literal_instance l h.0 g.0 g.1
    clause_instance_shape (l ∷ l' ∷ ls) h g =
        let ss = map (decoded limit) sigma in
        ap (shape []) (or_mapped limit two by ss (literal_said limit (shifted_literal by l)) (clause_said limit (map (shifted_literal by) (l' ∷ ls)))) ∙
        or_shape (mapped limit by ss (literal_said limit (shifted_literal by l))) (mapped limit by ss (clause_said limit (map (shifted_literal by) (l' ∷ ls))))
        (literal_said limit (substituted_literal sigma l)) (clause_said limit (map (substituted_literal sigma) (l' ∷ ls)))
        (literal_instance l h.0 g.0 g.1) (clause_instance_shape (l' ∷ ls) h.1 g.2)

    module _ {H : List Term} where
      -- an instance of a clause
      pub clause_instance : (ls : List Literal) → length types ≤ by → AreFine types ls → AreGiven sigma ls → AreFine new (map (substituted_literal sigma) ls) →
          Derivable H (clause_said limit ls) → Derivable H (clause_said limit (map (substituted_literal sigma) ls))
      clause_instance ls less h g good d =
          let moved = clause_moved limit two by types ls less small h d in
          let all = apart_instance limit by (length types) types (map (decoded limit) sigma) (clause_said limit (map (shifted_literal by) ls)) (omega arith) small
          (terms_decoded by (length types) types sigma few small fits typed) (clause_open limit two by types ls small h) moved.1 moved.0 in
          carry (alpha (clause_instance_shape ls h g) all.1 (clause_formula new limit (map (substituted_literal sigma) ls) good)) all.0
