use Rattle.std.proofs.Common.{◌≤◌}
use Rattle.leo_core.proofs.Refuting.{Remains}
use Rattle.leo_core.proofs.refuted.has_empty.Given as goal

abbrev pub invariant-loop-number : goal.invariant-loop-number
invariant-loop-number l = Remains l.clauses l.from l.number × (l.from ≤ l.number)
