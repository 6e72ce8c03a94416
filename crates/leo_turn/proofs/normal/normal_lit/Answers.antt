use Rattle.leo_terms.proofs.CallerLemmas.{extends-trans}
use Rattle.leo_clausify.proofs.Banks.{normal-made}
use Rattle.leo_turn.proofs.normal.normal_lit.Goals as goal

pub returns-in_err-right-clause-grows : goal.returns-in_err-right-clause-grows
returns-in_err-right-clause-grows c = extends-trans c.normal.ensures.grows c.normal-2.ensures.grows

pub returns-clause-made : goal.returns-clause-made
returns-clause-made c = normal-made c.normal.ensures.grows c.normal-2.ensures.grows c.args.lit.pos c.args.lit.left c.args.lit.right c.in_ok-left.left c.in_ok-right.right c.requires.left c.requires.right c.in_ok-left.ensures.made c.in_ok-right.ensures.made

pub returns-clause-grows : goal.returns-clause-grows
returns-clause-grows c = extends-trans c.normal.ensures.grows c.normal-2.ensures.grows
