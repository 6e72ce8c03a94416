use Rattle.leo_terms.proofs.CallerLemmas.{extends-trans}
use Rattle.clausify_rows.proofs.asking.ask.Goals as goal

pub returns-in_err-answer-clause-grows : goal.returns-in_err-answer-clause-grows
returns-in_err-answer-clause-grows c = extends-trans c.clause_of.ensures.grows c.answered.ensures.grows

pub returns-clause-grows : goal.returns-clause-grows
returns-clause-grows c = extends-trans c.clause_of.ensures.grows c.answered.ensures.grows
