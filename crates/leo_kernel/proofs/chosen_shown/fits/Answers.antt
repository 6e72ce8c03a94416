use Rattle.leo_terms.proofs.CallerLemmas.{extends-itself}
use Rattle.leo_kernel.proofs.ChosenShowing.{other-type, form-decides}
use Rattle.leo_kernel.proofs.chosen_shown.fits.Goals as goal

pub returns-then-ne-clause-value : goal.returns-then-ne-clause-value
returns-then-ne-clause-value c = other-type c.args.bank.now c.is_sound.ensures.sound c.args.t c.type_of-ty.result c.args.wanted.now.ty c.args.wanted.now.form c.requires.within c.requires.ty c.type_of-ty.ensures.number c.ne.result c.ne.ensures c.if-ne.true

pub returns-then-ne-clause-grows : goal.returns-then-ne-clause-grows
returns-then-ne-clause-grows c = extends-itself c.is_sound.ensures.sound

pub returns-clause-value : goal.returns-clause-value
returns-clause-value c = form-decides c.args.bank.now c.is_sound.ensures.sound c.args.t c.type_of-ty.result c.args.wanted.now.ty c.args.wanted.now.form c.requires.within c.requires.ty c.type_of-ty.ensures.number c.normal.new.self c.normal.ensures.grows c.requires.form c.ne.result c.ne.ensures c.if-ne.false c.in_ok-form.form c.in_ok-form.ensures.made c.eq.result c.eq.ensures
