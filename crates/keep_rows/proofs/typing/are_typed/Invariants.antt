use Rattle.std.proofs.Common.{take}
use Rattle.leo_keep.specs.Outcomes.{AreTypedIn}
use Rattle.keep_rows.proofs.typing.are_typed.Given as goal

abbrev pub invariant-loop-clause : goal.invariant-loop-clause
invariant-loop-clause l = AreTypedIn l.bank (take l.clause-index l.clauses)
