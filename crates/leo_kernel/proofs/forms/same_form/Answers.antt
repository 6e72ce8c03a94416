use Rattle.leo_terms.proofs.CallerLemmas.{extends-trans}
use Rattle.leo_kernel.proofs.FormRules.{forms-decide}
use Rattle.leo_kernel.proofs.forms.same_form.Goals as goal

pub returns-in_err-second-clause-grows : goal.returns-in_err-second-clause-grows
returns-in_err-second-clause-grows c = extends-trans c.normal.ensures.grows c.normal-2.ensures.grows

pub returns-clause-value : goal.returns-clause-value
returns-clause-value c = forms-decide c.normal.ensures.grows c.normal-2.ensures.grows c.args.s c.args.t c.in_ok-first.first c.in_ok-second.second c.requires.second c.in_ok-first.ensures.made c.in_ok-second.ensures.made c.eq.result c.eq.ensures

pub returns-clause-grows : goal.returns-clause-grows
returns-clause-grows c = extends-trans c.normal.ensures.grows c.normal-2.ensures.grows
