-- What a bank keeps with each of its terms. Only its invariant and private calls speak of it.
use Rattle.std.specs.Prelude.{ℕ, ◌≡◌, ◌-◌, ◌^◌, min, List, length, slice_get, Some}
use Rattle.leo_terms.specs.declared.facts.TermFacts.{TermFacts}
use Rattle.leo_terms.specs.Tree.{Tree}
use Rattle.leo_terms.specs.Facts.{tree_weight, loose_range, variable_range}
use Rattle.leo_terms.specs.Contents.{Contents, tree_at}

-- the facts are those of the term; of a weight past 64 bits the greatest number of 64 bits is kept
pub record AreFactsOf (t : Tree) (f : TermFacts) : Type 0 where
  pub weight : f.weight ≡ min (tree_weight t) (2 ^ 64 - 1)
  pub loose : f.loose ≡ loose_range t
  pub variables : f.variables ≡ variable_range t

-- each term has its facts, at its number
pub record AreFacts (c : Contents) (facts : List TermFacts) : Type 0 where
  pub same_length : length facts ≡ length c.terms
  pub right : (t : ℕ) (f : TermFacts) → slice_get facts t ≡ Some f → AreFactsOf (tree_at c t) f
