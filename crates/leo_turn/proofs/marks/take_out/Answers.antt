use Rattle.leo_turn.proofs.Growing.{range-next}
use Rattle.leo_turn.proofs.marks.take_out.Goals as goal

pub loop-number-preserved : goal.loop-number-preserved
loop-number-preserved c = range-next c.loop-number.number c.args.end c.loop-number.passive c.remove.new.self c.loop-number-test.true c.remove.ensures c.loop-number.invariant.0 c.loop-number.invariant.1
