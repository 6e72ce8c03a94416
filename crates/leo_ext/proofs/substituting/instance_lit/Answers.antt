use Rattle.std.proofs.Common.{refl}
use Rattle.leo_terms.proofs.CallerLemmas.{extends-trans}
use Rattle.leo_clause.proofs.Renaming.{given-kept, renamed-value}
use Rattle.leo_ext.proofs.substituting.instance_lit.Goals as goal

pub subst-requires-2-clause-given : goal.subst-requires-2-clause-given
subst-requires-2-clause-given c = given-kept c.subst.ensures.grows c.args.sigma.now c.requires.terms c.args.lit.right c.requires.right c.requires.right_given

pub returns-in_err-right-clause-grows : goal.returns-in_err-right-clause-grows
returns-in_err-right-clause-grows c = extends-trans c.subst.ensures.grows c.subst-2.ensures.grows

pub returns-clause-value : goal.returns-clause-value
returns-clause-value c = renamed-value c.subst.ensures.grows c.subst-2.ensures.grows c.args.sigma.now c.requires.terms c.args.lit (record { pos = c.args.lit.pos; left = c.in_ok-left.left; right = c.in_ok-right.right }) c.requires.left c.requires.right refl _ _ c.in_ok-left.ensures.made c.in_ok-right.ensures.made

pub returns-clause-grows : goal.returns-clause-grows
returns-clause-grows c = extends-trans c.subst.ensures.grows c.subst-2.ensures.grows
