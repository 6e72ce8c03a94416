use Rattle.conclude_rows.proofs.Ready.{board-later}
use Rattle.conclude_rows.proofs.telling.tell.Goals as goal

pub loop-text-preserved : goal.loop-text-preserved
loop-text-preserved g c = board-later c.ask.ensures.grows c.args.board.now c.loop-text.invariant
