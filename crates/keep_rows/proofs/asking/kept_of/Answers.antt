use Rattle.leo_terms.proofs.CallerLemmas.{extends-itself, extends-trans}
use Rattle.keep_rows.proofs.Ready.{board-later}
use Rattle.keep_rows.proofs.asking.kept_of.Goals as goal

pub returns-in_err-kept-clause-grows : goal.returns-in_err-kept-clause-grows
returns-in_err-kept-clause-grows c = extends-itself c.is_sound.ensures.sound

pub loop-text-init : goal.loop-text-init
loop-text-init c = (extends-itself c.is_sound.ensures.sound, rw c.in_ok-kept.ensures tt)

pub put_kept-requires-clause-board : goal.put_kept-requires-clause-board
put_kept-requires-clause-board c = board-later c.loop-text.invariant.0 c.args.board.now c.requires

pub returns-in_err-put-clause-grows : goal.returns-in_err-put-clause-grows
returns-in_err-put-clause-grows c = extends-trans c.loop-text.invariant.0 c.put_kept.ensures.grows

pub returns-then-not-put-clause-grows : goal.returns-then-not-put-clause-grows
returns-then-not-put-clause-grows c = extends-trans c.loop-text.invariant.0 c.put_kept.ensures.grows

pub loop-text-preserved : goal.loop-text-preserved
loop-text-preserved c = (extends-trans c.loop-text.invariant.0 c.put_kept.ensures.grows, c.in_ok-put.ensures.kept)
