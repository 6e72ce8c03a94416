use Rattle.leo_terms.proofs.CallerLemmas.{extends-itself, extends-trans}
use Rattle.ext_rows.proofs.Ready.{board-later}
use Rattle.ext_rows.proofs.telling.tell_clauses.Goals as goal

pub loop-text-init : goal.loop-text-init
loop-text-init g c = (extends-itself c.is_sound.ensures.sound, c.requires.in_order)

pub tell_clause-requires-clause-board : goal.tell_clause-requires-clause-board
tell_clause-requires-clause-board g c = board-later c.loop-text.invariant.0 c.args.board.now c.requires.board

pub tell_clause-requires-clause-in_order : goal.tell_clause-requires-clause-in_order
tell_clause-requires-clause-in_order g c = c.loop-text.invariant.1

pub loop-text-preserved : goal.loop-text-preserved
loop-text-preserved g c = (extends-trans c.loop-text.invariant.0 c.tell_clause.ensures.grows, c.tell_clause.ensures.in_order)
