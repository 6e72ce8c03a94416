-- Types and terms of a bank that grew, and lists of them.
use Rattle.std.proofs.Common.{ℕ, zero, suc, nat_eq, ◌≡◌, ◌<◌, Bool, true, false, List, [], ◌∷◌, ◌++◌, length, map, slice_get, Some, refl, arith}
use Rattle.std.proofs.lemmas.Bool.Decides.{nat_tests}
use Rattle.leo_terms.specs.Contents.{Contents, IsBank, Extends, IsTerm, tree_at, type_at, type_number}
use Rattle.leo_terms.proofs.CallerLemmas.{type-kept, tree-kept, term-shared}
use Rattle.leo_clause.specs.Typed.{AreTypesOf}
use Rattle.leo_clause.specs.Sameness.{same_tree}
use Rattle.leo_unify.specs.declared.pairs.Pair.{Pair}
use Rattle.leo_unify.specs.Views.{pair_at, ArePairsOf}
use Rattle.leo_clause.proofs.Same.{same_tree-refl, equal-trees}

-- a term with what it reads as
pub itself : (c : Contents) (t : ℕ) → t < length c.terms → IsTerm c t (type_number c t) (tree_at c t)
itself c t l = record { within = l; type_is = refl; reads = refl }

-- types
pub types-end : (c : Contents) (types : List ℕ) (a : ℕ) → AreTypesOf c types → a < length c.types → AreTypesOf c (types ++ a ∷ [])
types-end c [] a h l = (l, tt)
types-end c (b ∷ types) a h l = (h.0, types-end c types a h.1 l)

pub types-append : (c : Contents) (types more : List ℕ) → AreTypesOf c types → AreTypesOf c more → AreTypesOf c (types ++ more)
types-append c [] more h k = k
types-append c (b ∷ types) more h k = (h.0, types-append c types more h.1 k)

module _ {c d : Contents} (e : Extends c d) where
  pub types-grow : (types : List ℕ) → AreTypesOf c types → AreTypesOf d types
  types-grow [] h = tt
  types-grow (a ∷ types) h = let p = h.0 in let q = e.types_more in (omega arith, types-grow types h.1)

  pub types-kept : (types : List ℕ) → AreTypesOf c types → map (type_at d) types ≡ map (type_at c) types
  types-kept [] h = refl
  types-kept (a ∷ types) h = rw (type-kept e a h.0, types-kept types h.1) refl

-- pairs
pub pairs-of-end : (c : Contents) (ps : List Pair) (p : Pair) → ArePairsOf c ps → p.left < length c.terms → p.right < length c.terms → ArePairsOf c (ps ++ p ∷ [])
pairs-of-end c [] p h l r = (l, r, tt)
pairs-of-end c (q ∷ ps) p h l r = (h.0, h.1, pairs-of-end c ps p h.2 l r)

pub pairs-of-append : (c : Contents) (ps qs : List Pair) → ArePairsOf c ps → ArePairsOf c qs → ArePairsOf c (ps ++ qs)
pairs-of-append c [] qs h k = k
pairs-of-append c (p ∷ ps) qs h k = (h.0, h.1, pairs-of-append c ps qs h.2 k)

pub pairs-of-at : (c : Contents) (ps : List Pair) → ArePairsOf c ps → (i : ℕ) (p : Pair) → slice_get ps i ≡ Some p → (p.left < length c.terms) × (p.right < length c.terms)
pairs-of-at c [] h i p e = absurd (cc)
pairs-of-at c (q ∷ ps) h zero p e = let f : q ≡ p = cc in rw (← f) (h.0, h.1)
pairs-of-at c (q ∷ ps) h (suc i) p e = pairs-of-at c ps h.2 i p e

module _ {c d : Contents} (e : Extends c d) where
  pub pairs-of-grow : (ps : List Pair) → ArePairsOf c ps → ArePairsOf d ps
  pairs-of-grow [] h = tt
  pairs-of-grow (p ∷ ps) h = let m = e.terms_more in let l = h.0 in let r = h.1 in (omega arith, omega arith, pairs-of-grow ps h.2)

  pub pairs-kept : (ps : List Pair) → ArePairsOf c ps → map (pair_at d) ps ≡ map (pair_at c) ps
  pairs-kept [] h = refl
  pairs-kept (p ∷ ps) h = rw (tree-kept e p.left h.0, tree-kept e p.right h.1, pairs-kept ps h.2) refl

-- numbers are equal where trees are
pub same-terms : (c : Contents) → IsBank c → (t u : ℕ) → t < length c.terms → u < length c.terms → nat_eq t u ≡ same_tree (tree_at c t) (tree_at c u)
same-terms c b t u p q = by (nat_eq t u) refl (same_tree (tree_at c t) (tree_at c u)) refl
  where
    by : (x : Bool) → nat_eq t u ≡ x → (y : Bool) → same_tree (tree_at c t) (tree_at c u) ≡ y → x ≡ y
    by true e true f = refl
    by false e false f = refl
    by true e false f = let g : t ≡ u = grind (arith, nat_tests) in absurd (let h : same_tree (tree_at c t) (tree_at c t) ≡ true = same_tree-refl (tree_at c t) in let k : same_tree (tree_at c t) (tree_at c t) ≡ false = (rw (← g) at f) in cc)
    by false e true f = absurd (let g : t ≡ u = term-shared b t u p q (equal-trees (tree_at c t) (tree_at c u) f) in let h : nat_eq t t ≡ true = grind (arith, nat_tests) in let k : nat_eq t t ≡ false = (rw (← g) at e) in cc)
