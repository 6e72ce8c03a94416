use Rattle.leo_terms.proofs.CallerLemmas.{extends-itself, extends-trans}
use Rattle.leo_kernel.proofs.FormRules.{converted-decides}
use Rattle.leo_kernel.proofs.forms.is_converted.Goals as goal

pub returns-then-new-old-clause-grows : goal.returns-then-new-old-clause-grows
returns-then-new-old-clause-grows c = extends-itself c.is_sound.ensures.sound

pub returns-in_err-right-clause-grows : goal.returns-in_err-right-clause-grows
returns-in_err-right-clause-grows c = extends-trans c.same_form.ensures.grows c.same_form-2.ensures.grows

pub returns-clause-value : goal.returns-clause-value
returns-clause-value c = converted-decides c.same_form.ensures.grows c.args.old c.args.new c.requires.new_right c.requires.old_right c.if-new-old.false c.in_ok-left.left c.in_ok-right.right c.in_ok-left.ensures.value c.if-not-left.false c.in_ok-right.ensures.value

pub returns-clause-grows : goal.returns-clause-grows
returns-clause-grows c = extends-trans c.same_form.ensures.grows c.same_form-2.ensures.grows
