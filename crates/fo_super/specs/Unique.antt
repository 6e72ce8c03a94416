-- A search has one next search.
use Rattle.std.specs.Prelude.{◌≡◌}
use Rattle.fo_text.specs.declared.problem.FoProblem.{FoProblem}
use Rattle.fo_text.specs.Problems.{IsProblem}
use Rattle.fo_super.specs.Runs.{IsRunOf}
use Rattle.fo_super.specs.Turns.{Search, IsTurn}

-- a turn has one result: the same kept clauses and origins, the same passive numbers, as many turns
abbrev pub TurnsAreUnique : Type 0
TurnsAreUnique = (p : FoProblem) (old new other : Search) → IsProblem p → IsRunOf p old → IsTurn p old new → IsTurn p old other → new ≡ other
