use Rattle.leo_terms.proofs.CallerLemmas.{extends-trans}
use Rattle.para_rows.proofs.Ready.{board-later, clause-later}
use Rattle.para_rows.proofs.asking.row_of.Goals as goal

pub clause_of-requires-2 : goal.clause_of-requires-2
clause_of-requires-2 c = board-later c.clause_of.ensures.grows c.args.board.now c.requires

pub returns-in_err-clause-clause-grows : goal.returns-in_err-clause-clause-grows
returns-in_err-clause-clause-grows c = extends-trans c.clause_of.ensures.grows c.clause_of-2.ensures.grows

pub returns-in_default-clause-clause-grows : goal.returns-in_default-clause-clause-grows
returns-in_default-clause-clause-grows c = extends-trans c.clause_of.ensures.grows c.clause_of-2.ensures.grows

pub returns-clause-from : goal.returns-clause-from
returns-clause-from c = clause-later c.clause_of-2.ensures.grows c.in-Some.from (rw c.in-Some.is at c.in_ok-read.ensures.clause)

pub returns-clause-grows : goal.returns-clause-grows
returns-clause-grows c = extends-trans c.clause_of.ensures.grows c.clause_of-2.ensures.grows
