use Rattle.kernel_rows.proofs.Ready.{board-later}
use Rattle.kernel_rows.proofs.telling.row.Goals as goal

pub returns : goal.returns
returns g c = board-later c.ask.ensures.grows c.args.board.now c.requires
