-- The weight of a clause, literal by literal.
use Rattle.std.proofs.Common.{ℕ, ◌≡◌, ◌+◌, ◌-◌, ◌^◌, ◌<◌, List, [], ◌∷◌, ◌++◌, length, map, take, get_or, refl, sym, ◌∙◌, ap, arith}
use Rattle.std.specs.Prelude.{min}
use Rattle.std.proofs.lemmas.List.{map-append, take_more}
use Rattle.leo_terms.specs.Contents.{Contents, tree_at}
use Rattle.leo_terms.specs.Facts.{tree_weight}
use Rattle.leo_clause.specs.declared.clause.Lit.{Lit}
use Rattle.leo_clause.specs.Trees.{Literal, literal_at}
use Rattle.leo_clause.specs.Weights.{literals_weight}

literals_weight-last : (xs : List Literal) (l : Literal) → literals_weight (xs ++ l ∷ []) ≡ literals_weight xs + (tree_weight l.left + tree_weight l.right)
literals_weight-last [] l = omega arith
literals_weight-last (x ∷ xs) l = omega (arith, literals_weight-last xs l)

sum-saturated : (a b c w m : ℕ) → w ≡ a + (b + c) → min (min (min a m + min b m) m + min c m) m ≡ min w m
sum-saturated a b c w m e = omega arith

-- the weight of the literals up to a place, with that of the literal there
pub weight-next : (c : Contents) (lits : List Lit) (i : ℕ) (l : Lit) (sum m : ℕ) → i < length lits → l ≡ get_or lits i l → sum ≡ min (literals_weight (map (literal_at c) (take i lits))) m → min (min (sum + min (tree_weight (tree_at c l.left)) m) m + min (tree_weight (tree_at c l.right)) m) m ≡ min (literals_weight (map (literal_at c) (take (i + 1) lits))) m
weight-next c lits i l sum m within is e =
    let t : take (i + 1) lits ≡ take i lits ++ l ∷ [] = take_more lits i l within ∙ ap (λ z. take i lits ++ z ∷ []) (sym is) in
    let w : literals_weight (map (literal_at c) (take (i + 1) lits)) ≡ literals_weight (map (literal_at c) (take i lits)) + (tree_weight (tree_at c l.left) + tree_weight (tree_at c l.right)) =
    ap (λ ls. literals_weight (map (literal_at c) ls)) t ∙ ap literals_weight (map-append (literal_at c) (take i lits) (l ∷ [])) ∙ literals_weight-last (map (literal_at c) (take i lits)) (literal_at c l) in
    rw e (sum-saturated (literals_weight (map (literal_at c) (take i lits))) (tree_weight (tree_at c l.left)) (tree_weight (tree_at c l.right)) _ m w)
