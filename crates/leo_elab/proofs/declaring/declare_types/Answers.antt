use Rattle.leo_terms.proofs.CallerLemmas.{extends-itself, extends-trans}
use Rattle.leo_elab.proofs.declaring.declare_types.Goals as goal

pub loop-place-init : goal.loop-place-init
loop-place-init c = record { up_to = c.requires.before; grows = extends-itself c.is_sound.ensures.sound }

pub returns-in_err-type_at-clause-grows : goal.returns-in_err-type_at-clause-grows
returns-in_err-type_at-clause-grows c = extends-trans c.loop-place.invariant.grows c.type_at.ensures.grows

pub loop-place-preserved : goal.loop-place-preserved
loop-place-preserved c = record { up_to = c.in_ok-type_at.ensures.now; grows = extends-trans c.loop-place.invariant.grows c.type_at.ensures.grows }
