use Rattle.conclude_rows.proofs.Overs.{negative-next}
use Rattle.conclude_rows.proofs.typing.are_constraints.Goals as goal

pub loop-number-preserved : goal.loop-number-preserved
loop-number-preserved c = negative-next c.args.clause.now.lits c.args.numbers.now c.loop-number.number-index c.loop-number.invariant c.loop-number-test.true (rw c.as_slice.ensures at c.if-not-is_negative.ensures)
