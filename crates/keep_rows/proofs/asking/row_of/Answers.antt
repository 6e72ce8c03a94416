use Rattle.leo_terms.proofs.CallerLemmas.{extends-itself, extends-trans}
use Rattle.keep_rows.proofs.Ready.{board-later, clauses-later}
use Rattle.keep_rows.proofs.asking.row_of.Goals as goal

pub returns-in_err-texts-clause-grows : goal.returns-in_err-texts-clause-grows
returns-in_err-texts-clause-grows c = extends-itself c.is_sound.ensures.sound

pub clause_of-requires : goal.clause_of-requires
clause_of-requires c = board-later c.kept_of.ensures.grows c.args.board.now c.requires

pub returns-in_err-clause-clause-grows : goal.returns-in_err-clause-clause-grows
returns-in_err-clause-clause-grows c = extends-trans c.kept_of.ensures.grows c.clause_of.ensures.grows

pub returns-in_default-clause-clause-grows : goal.returns-in_default-clause-clause-grows
returns-in_default-clause-clause-grows c = extends-trans c.kept_of.ensures.grows c.clause_of.ensures.grows

pub returns-clause-kept : goal.returns-clause-kept
returns-clause-kept c = clauses-later c.clause_of.ensures.grows c.in-Some.kept (rw c.in-Some.is at c.in_ok-read.ensures.kept)

pub returns-clause-grows : goal.returns-clause-grows
returns-clause-grows c = extends-trans c.kept_of.ensures.grows c.clause_of.ensures.grows
