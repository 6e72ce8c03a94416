use Rattle.kernel_rows.proofs.Ready.{board-later, hypothesis-put, same-hypotheses}
use Rattle.kernel_rows.proofs.board.put_hypothesis.Goals as goal

pub returns-in_err-read-clause-board : goal.returns-in_err-read-clause-board
returns-in_err-read-clause-board c = board-later c.term.ensures.grows c.args.board.now c.requires

pub returns-in_err-push-in-Some-clause-board : goal.returns-in_err-push-in-Some-clause-board
returns-in_err-push-in-Some-clause-board c = same-hypotheses c.term.new.bank c.args.board.now _ c.in_err-push-in-Some.ensures.err (board-later c.term.ensures.grows c.args.board.now c.requires)

pub returns-in_ok-push-in-Some-clause-board : goal.returns-in_ok-push-in-Some-clause-board
returns-in_ok-push-in-Some-clause-board c = hypothesis-put c.term.new.bank c.args.board.now c.in-Some.t _ c.in_ok-push-in-Some.ensures.ok (board-later c.term.ensures.grows c.args.board.now c.requires) (rw c.in-Some.is at c.in_ok-read.ensures.term).within

pub returns-in-None-clause-board : goal.returns-in-None-clause-board
returns-in-None-clause-board c = board-later c.term.ensures.grows c.args.board.now c.requires
