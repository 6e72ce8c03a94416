use Rattle.leo_terms.proofs.CallerLemmas.{extends-trans}
use Rattle.kernel_rows.proofs.Ready.{board-later}
use Rattle.kernel_rows.proofs.steps.ask.Goals as goal

pub asked-answer-requires-clause-board : goal.asked-answer-requires-clause-board
asked-answer-requires-clause-board c = board-later c.step_of.ensures.grows c.args.board.now c.requires

pub asked-answer-requires-clause-step : goal.asked-answer-requires-clause-step
asked-answer-requires-clause-step c = rw c.in-Some.is at c.in_ok-read.ensures.step

pub returns : goal.returns
returns c = record { grows = extends-trans c.step_of.ensures.grows c.asked-answer.ensures.grows }
