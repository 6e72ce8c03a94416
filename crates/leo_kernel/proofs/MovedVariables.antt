-- Variables that are made one by one, numbered from a first one on.
use Rattle.std.proofs.Common.{ℕ, zero, suc, ◌≡◌, ◌∙◌, ◌+◌, ◌<◌, List, [], ◌∷◌, ◌++◌, length, map, take, slice_get, slice_index_or, Some, refl, sym, ap, arith, inl, inr}
use Rattle.std.proofs.lemmas.List.{map-append, take_more}
use Rattle.leo_q0.specs.Terms.{SimpleType}
use Rattle.leo_terms.specs.Tree.{Tree, variable}
use Rattle.leo_terms.specs.Contents.{Contents, Extends, IsTerm, AreTerms, tree_at, type_at}
use Rattle.leo_terms.proofs.CallerLemmas.{trees-kept, are_terms-kept, type-kept}
use Rattle.leo_clause.specs.Typed.{AreTypesOf, AreLiteralsOf}
use Rattle.leo_clause.specs.declared.clause.Lit.{Lit}
use Rattle.leo_clause.specs.Trees.{literal_at}
use Rattle.leo_clause.specs.Renaming.{AreGiven, AreRenamed, substituted_literal}
use Rattle.leo_kernel.specs.Leaves.{AreDeclared}
use Rattle.leo_kernel.specs.Places.{shifted_literal}
use Rattle.leo_kernel.specs.Moved.{variables_from}
use Rattle.leo_kernel.proofs.GivenTerms.{given-of}
use Rattle.leo_kernel.proofs.Growing.{lits-kept}
use Rattle.leo_kernel.proofs.MovedTerms.{literals-moved, variables-types}
use Rattle.leo_kernel.proofs.Lists.{end-only, length-map}
use Rattle.leo_kernel.proofs.Numbers.{types-at}

pub terms-none : (c : Contents) (ts : List ℕ) → ts ≡ [] → AreTerms c ts
terms-none c ts e i t h = (let f : slice_get [] i ≡ Some t = rw e at h in let g : ⊥ = cc in absurd g)

terms-end : (c : Contents) (ts : List ℕ) (t : ℕ) → AreTerms c ts → t < length c.terms → AreTerms c (ts ++ t ∷ [])
terms-end c ts t h l i u e =
    elim (end-only ts t i u e) [
      | inl g ↦ h i u g
      | inr g ↦ rw (← g) l
    ]

variables-end : (first n : ℕ) (types : List SimpleType) (a : SimpleType) → n ≡ first + length types → variables_from first (types ++ a ∷ []) ≡ variables_from first types ++ variable n a ∷ []
variables-end first n [] a e = (let f : first ≡ n = omega arith in rw f refl)
variables-end first n (b ∷ types) a e = ap (λ (ts : List Tree). variable first b ∷ ts) (variables-end (suc first) n types a (omega arith))

take-length : {X : Type 0} (n : ℕ) (xs : List X) → n < length xs → length (take n xs) ≡ n
take-length zero xs l = refl
take-length (suc n) [] l = absurd (omega arith)
take-length (suc n) (x ∷ xs) l = ap suc (take-length n xs (omega arith))

module _ {old c d : Contents} (e : Extends old c) (f : Extends c d) (first : ℕ) (types ts : List ℕ) (i t a n : ℕ) (terms : AreTerms c ts) (m : IsTerm d t a (variable n (type_at c a))) where
  pub terms-next : AreTerms d (ts ++ t ∷ [])
  terms-next = terms-end d ts t (are_terms-kept f ts terms) m.within

  pub variables-next : AreTypesOf old types → map (tree_at c) ts ≡ variables_from first (map (type_at old) (take i types)) → i < length types → a ≡ slice_index_or types i a → n ≡ first + i →
      map (tree_at d) (ts ++ t ∷ []) ≡ variables_from first (map (type_at old) (take (i + 1) types))
  variables-next h r l k z =
      let more : take (i + 1) types ≡ take i types ++ a ∷ [] = take_more types i a l ∙ ap (λ x. take i types ++ x ∷ []) (sym k) in
      let kept : map (tree_at d) ts ≡ map (tree_at c) ts = trees-kept f ts terms in
      let type : type_at c a ≡ type_at old a = type-kept e a (types-at old types h i a l k) in
      let size : length (map (type_at old) (take i types)) ≡ i = length-map (type_at old) (take i types) ∙ take-length i types l in
      let last : tree_at d t ≡ variable n (type_at old a) = rw type at m.reads in
      map-append (tree_at d) ts (t ∷ []) ∙ rw (kept, r, last, more, map-append (type_at old) (take i types) (a ∷ [])) (sym (variables-end first n (map (type_at old) (take i types)) (type_at old a) (rw size z)))

take-whole : {X : Type 0} (xs : List X) (n : ℕ) → length xs ≡ n → take n xs ≡ xs
take-whole [] zero l = refl
take-whole [] (suc n) l = refl
take-whole (x ∷ xs) zero l = absurd (omega arith)
take-whole (x ∷ xs) (suc n) l = ap (λ ys. x ∷ ys) (take-whole xs n (omega arith))

-- literals in which they stand for the variables
module _ {c d : Contents} (e : Extends c d) (first : ℕ) (types sigma : List ℕ) (lits : List Lit) (reads : map (tree_at d) sigma ≡ variables_from first (map (type_at c) types)) (h : AreLiteralsOf c lits) (declared : AreDeclared (map (type_at c) types) (map (literal_at c) lits)) where
  pub moved-given : AreGiven (map (tree_at d) sigma) (map (literal_at d) lits)
  moved-given =
      let types_are = variables-types first (map (type_at c) types) in
      rw (reads, lits-kept e lits h) (given-of (variables_from first (map (type_at c) types)) (map (literal_at c) lits) (rw types_are declared))

  pub moved-reads : (f : Contents) (ls : List Lit) → AreRenamed d f sigma lits ls (length lits) → map (literal_at f) ls ≡ map (shifted_literal first) (map (literal_at c) lits)
  moved-reads f ls r =
      let size : length (map (substituted_literal (map (tree_at d) sigma)) (map (literal_at d) lits)) ≡ length lits = length-map (substituted_literal (map (tree_at d) sigma)) (map (literal_at d) lits) ∙ length-map (literal_at d) lits in
      r.value ∙ take-whole (map (substituted_literal (map (tree_at d) sigma)) (map (literal_at d) lits)) (length lits) size ∙ rw (reads, lits-kept e lits h) (literals-moved first (map (type_at c) types) (map (literal_at c) lits) declared)
