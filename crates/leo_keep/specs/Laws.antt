-- What is so of outcomes.
use Rattle.std.specs.Prelude.{ℕ, ◌≡◌, List, Option}
use Rattle.leo_clause.specs.Trees.{ClauseTree}
use Rattle.leo_keep.specs.declared.outcomes.Outcome.{Outcome}
use Rattle.leo_keep.specs.Outcomes.{OutcomeOf}

-- a clause has one outcome
abbrev pub OutcomesAreUnique : Type 0
OutcomesAreUnique = (clauses : List ClauseTree) (c : ClauseTree) (limit : Option ℕ) (o p : Outcome) → OutcomeOf clauses c limit o → OutcomeOf clauses c limit p → o ≡ p
