use Rattle.leo_terms.proofs.CallerLemmas.{extends-trans}
use Rattle.tstp_rows.proofs.given.make_terms.Goals as goal

pub returns-in_err-thing-clause-grows : goal.returns-in_err-thing-clause-grows
returns-in_err-thing-clause-grows c = extends-trans c.make_logic.ensures.grows (extends-trans c.make_logic-2.ensures.grows c.make_var.ensures.grows)

pub returns-in_err-value-clause-grows : goal.returns-in_err-value-clause-grows
returns-in_err-value-clause-grows c = extends-trans c.make_logic.ensures.grows (extends-trans c.make_logic-2.ensures.grows (extends-trans c.make_var.ensures.grows c.make_var-2.ensures.grows))

pub returns-in_err-first-clause-grows : goal.returns-in_err-first-clause-grows
returns-in_err-first-clause-grows c =
    extends-trans c.make_logic.ensures.grows (extends-trans c.make_logic-2.ensures.grows (extends-trans c.make_var.ensures.grows (extends-trans c.make_var-2.ensures.grows c.make_name.ensures.grows)))

pub returns-in_err-second-clause-grows : goal.returns-in_err-second-clause-grows
returns-in_err-second-clause-grows c =
    extends-trans c.make_logic.ensures.grows (extends-trans c.make_logic-2.ensures.grows (extends-trans c.make_var.ensures.grows (extends-trans c.make_var-2.ensures.grows (extends-trans c.make_name.ensures.grows c.make_name-2.ensures.grows))))

pub returns-clause-grows : goal.returns-clause-grows
returns-clause-grows c =
    extends-trans c.make_logic.ensures.grows (extends-trans c.make_logic-2.ensures.grows (extends-trans c.make_var.ensures.grows (extends-trans c.make_var-2.ensures.grows (extends-trans c.make_name.ensures.grows c.make_name-2.ensures.grows))))
