use Rattle.leo_terms.proofs.CallerLemmas.{extends-trans}
use Rattle.clausify_rows.proofs.board.make_types.Goals as goal

pub returns-in_err-relation-clause-grows : goal.returns-in_err-relation-clause-grows
returns-in_err-relation-clause-grows c = extends-trans c.arrow.ensures.grows (extends-trans c.arrow-2.ensures.grows c.arrow-3.ensures.grows)

pub returns-in_err-types-clause-grows : goal.returns-in_err-types-clause-grows
returns-in_err-types-clause-grows c = extends-trans c.arrow.ensures.grows (extends-trans c.arrow-2.ensures.grows c.arrow-3.ensures.grows)

pub returns-clause-grows : goal.returns-clause-grows
returns-clause-grows c = extends-trans c.arrow.ensures.grows (extends-trans c.arrow-2.ensures.grows c.arrow-3.ensures.grows)
