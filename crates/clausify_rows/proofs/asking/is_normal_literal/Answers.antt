use Rattle.leo_terms.proofs.CallerLemmas.{extends-trans}
use Rattle.clausify_rows.proofs.Normals.{on-sides}
use Rattle.clausify_rows.proofs.asking.is_normal_literal.Goals as goal

pub returns-in_err-right-clause-grows : goal.returns-in_err-right-clause-grows
returns-in_err-right-clause-grows c = extends-trans c.is_normal.ensures.grows c.is_normal-2.ensures.grows

pub returns-clause-normal : goal.returns-clause-normal
returns-clause-normal c = on-sides c.is_normal.ensures.grows c.args.lit.now c.in_ok-left.left c.in_ok-right.right c.requires.right c.in_ok-left.ensures.normal c.if-not-left.false c.in_ok-right.ensures.normal

pub returns-clause-grows : goal.returns-clause-grows
returns-clause-grows c = extends-trans c.is_normal.ensures.grows c.is_normal-2.ensures.grows
