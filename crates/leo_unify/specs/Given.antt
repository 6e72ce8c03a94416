-- The pairs that are handed in.
use Rattle.std.specs.Prelude.{ℕ, ◌≡◌, ◌<◌, List, [], ◌∷◌, length}
use Rattle.leo_q0.specs.Terms.{SimpleType}
use Rattle.leo_terms.specs.Tree.{type_of}
use Rattle.leo_terms.specs.Contents.{Contents, tree_at}
use Rattle.leo_clause.specs.Typed.{IsOver}
use Rattle.leo_unify.specs.declared.pairs.Pair as declared
use Rattle.leo_unify.specs.Pairs.{Pair}

-- what a pair of terms of a bank says
abbrev pub pair_of : Contents → ℕ × ℕ → Pair
pair_of c p = record { left = tree_at c p.0; right = tree_at c p.1 }

-- the same pair as it is worked
abbrev pub as_pair : ℕ × ℕ → declared.Pair
as_pair p = record { left = p.0; right = p.1 }

-- two terms of the bank over these variables, of one type
pub record IsTypedPair (c : Contents) (variables : List SimpleType) (p : ℕ × ℕ) : Type 0 where
  pub left_within : p.0 < length c.terms
  pub right_within : p.1 < length c.terms
  pub left_over : IsOver variables 0 (tree_at c p.0)
  pub right_over : IsOver variables 0 (tree_at c p.1)
  pub same_type : type_of (tree_at c p.0) ≡ type_of (tree_at c p.1)

abbrev pub AreTypedPairs : Contents → List SimpleType → List (ℕ × ℕ) → Type 0
AreTypedPairs c variables [] = Unit {0}
AreTypedPairs c variables (p ∷ ps) = IsTypedPair c variables p × AreTypedPairs c variables ps
