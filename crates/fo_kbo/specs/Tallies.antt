-- How often the variables with small numbers occur between two places.
use Rattle.std.specs.Prelude.{ℕ, ◌≡◌, ◌<◌, ◌≤◌, true, List, Some, slice_get, slice_range, count_by}
use Rattle.fo_terms.specs.declared.term.FoNode.{FoNode}
use Rattle.fo_terms.specs.Places.{IsBehind}
use Rattle.fo_kbo.specs.declared.tally.Tally.{Tally}
use Rattle.fo_kbo.specs.Nodes.{is_node_of}
use Rattle.fo_kbo.specs.Outward.{AreSameBefore}

-- so many variables are counted, those with the smallest numbers
abbrev pub counted : ℕ
counted = 64

-- how often the variable stands from one place up to another
abbrev pub occurs_between : ℕ → List FoNode → ℕ → ℕ → ℕ
occurs_between v ns a b = count_by (is_node_of v) (slice_range ns a b)

-- the counts are those of all variables that stand from one place up to another
pub record AreCounts (ns : List FoNode) (a b : ℕ) (counts : List ℕ) : Type 0 where
  pub small : (v : ℕ) → v < counted → slice_get counts v ≡ Some (occurs_between v ns a b)
  pub large : (v : ℕ) → counted ≤ v → occurs_between v ns a b ≡ 0

-- the tally has these counts, unless a variable with a large number was met
abbrev pub IsTally : List FoNode → ℕ → ℕ → Tally → Type 0
IsTally ns a b t = t.small ≡ true → AreCounts ns a b t.counts

-- terms of two lists that are the same up to a place, from which on variables are tallied
pub record AreTallied (ns ms : List FoNode) (at e d : ℕ) (left right : Tally) : Type 0 where
  pub start : ℕ
  pub before : at ≤ start
  pub left_later : start ≤ e
  pub right_later : start ≤ d
  pub same : AreSameBefore ns ms start
  pub left_behind : IsBehind ns at e
  pub right_behind : IsBehind ms at d
  pub left_counts : IsTally ns start e left
  pub right_counts : IsTally ms start d right
