use Rattle.std.proofs.Common.{ℕ, ◌≡◌, ◌<◌, ◌≤◌, ◌-◌, length, Some}
use Rattle.std.specs.List.{slice_get}
use Rattle.fo_text.specs.declared.problem.FoClause.{FoClause}
use Rattle.fo_prove.specs.Answers.{IsEmptyClause}
use Rattle.fo_prove.proofs.ends.first_empty.Given as goal

abbrev pub invariant-loop-at : goal.invariant-loop-at
invariant-loop-at l = record {
  within : l.at ≤ length l.clauses;
  none : (m : ℕ) (k : FoClause) → m < l.at → slice_get l.clauses m ≡ Some k → IsEmptyClause k → ⊥;
}

abbrev pub decreases-loop-at : goal.decreases-loop-at
decreases-loop-at l = length l.clauses - l.at
