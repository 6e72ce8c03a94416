use Rattle.std.proofs.Common.{◌≡◌, ◌++◌, drop}
use Rattle.leo_clausify.specs.Moves.{records_after}
use Rattle.leo_clausify.proofs.moves.records.Given as goal

abbrev pub invariant-loop-step : goal.invariant-loop-step
invariant-loop-step l = l.records ++ records_after l.parent (drop l.step-index l.steps) ≡ records_after l.initial.parent l.steps
