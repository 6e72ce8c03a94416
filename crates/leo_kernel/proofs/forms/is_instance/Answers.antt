use Rattle.leo_terms.proofs.CallerLemmas.{extends-itself, extends-trans}
use Rattle.leo_terms.proofs.CallerLemmas.{tree-kept, trees-kept}
use Rattle.leo_kernel.proofs.FormRules.{instance-fails, instance-decides}
use Rattle.leo_kernel.proofs.forms.is_instance.Goals as goal

pub returns-then-new-old-clause-grows : goal.returns-then-new-old-clause-grows
returns-then-new-old-clause-grows c = extends-itself c.is_sound.ensures.sound

pub returns-then-ne-clause-value : goal.returns-then-ne-clause-value
returns-then-ne-clause-value c = instance-fails c.subst.ensures.grows c.args.sigma.now c.args.old c.args.new c.in_ok-left.left _ c.requires.new_left c.in_ok-left.ensures.made c.ne.result c.ne.ensures c.if-ne.true

pub subst-requires-2-clause-given : goal.subst-requires-2-clause-given
subst-requires-2-clause-given c = rw (trees-kept c.subst.ensures.grows c.args.sigma.now c.requires.terms, tree-kept c.subst.ensures.grows c.args.old.right c.requires.old_right) c.requires.right_given

pub returns-in_err-right-clause-grows : goal.returns-in_err-right-clause-grows
returns-in_err-right-clause-grows c = extends-trans c.subst.ensures.grows c.subst-2.ensures.grows

pub returns-clause-value : goal.returns-clause-value
returns-clause-value c = instance-decides c.subst.ensures.grows c.subst-2.ensures.grows c.args.sigma.now c.requires.terms c.args.old c.args.new c.requires.new_left c.requires.new_right c.requires.old_right c.in_ok-left.left _ c.in_ok-right.right _ c.in_ok-left.ensures.made c.in_ok-right.ensures.made c.if-new-old.false c.ne.result c.eq.result c.ne.ensures c.if-ne.false c.eq.ensures

pub returns-clause-grows : goal.returns-clause-grows
returns-clause-grows c = extends-trans c.subst.ensures.grows c.subst-2.ensures.grows
