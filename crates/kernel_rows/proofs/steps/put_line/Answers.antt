use Rattle.kernel_rows.proofs.Ready.{board-later, line-put, same-lines}
use Rattle.kernel_rows.proofs.steps.put_line.Goals as goal

pub returns-in_err-read-clause-board : goal.returns-in_err-read-clause-board
returns-in_err-read-clause-board c = board-later c.step_of.ensures.grows c.args.board.now c.requires

pub returns-in_err-push-in-Some-clause-board : goal.returns-in_err-push-in-Some-clause-board
returns-in_err-push-in-Some-clause-board c = same-lines c.step_of.new.bank c.args.board.now _ c.in_err-push-in-Some.ensures.items (board-later c.step_of.ensures.grows c.args.board.now c.requires)

pub returns-in_ok-push-in-Some-clause-board : goal.returns-in_ok-push-in-Some-clause-board
returns-in_ok-push-in-Some-clause-board c = line-put c.step_of.new.bank c.args.board.now _ _ c.in_ok-push-in-Some.ensures.items (board-later c.step_of.ensures.grows c.args.board.now c.requires) (rw c.in-Some.is at c.in_ok-read.ensures.step)

pub returns-in-None-clause-board : goal.returns-in-None-clause-board
returns-in-None-clause-board c = board-later c.step_of.ensures.grows c.args.board.now c.requires
