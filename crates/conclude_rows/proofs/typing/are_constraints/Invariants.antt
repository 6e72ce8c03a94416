use Rattle.std.proofs.Common.{take}
use Rattle.conclude_rows.specs.Boards.{AreNegative}
use Rattle.conclude_rows.proofs.typing.are_constraints.Given as goal

abbrev pub invariant-loop-number : goal.invariant-loop-number
invariant-loop-number l = AreNegative l.clause.lits (take l.number-index l.numbers)
