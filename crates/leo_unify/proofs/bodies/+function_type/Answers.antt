use Rattle.leo_terms.proofs.CallerLemmas.{extends-itself, extends-trans}
use Rattle.leo_unify.proofs.Places.{first-rest}
use Rattle.leo_unify.proofs.BodySteps.{function-type_step}
use Rattle.leo_unify.proofs.bodies.+function_type.Goals as goal

pub returns-in-empty-clause-grows : goal.returns-in-empty-clause-grows
returns-in-empty-clause-grows t c = extends-itself c.is_sound.ensures.sound

pub returns-in_ok-r-in-len1-up-clause-value : goal.returns-in_ok-r-in-len1-up-clause-value
returns-in_ok-r-in-len1-up-clause-value t c =
    function-type_step c.function_type.ensures.grows c.arrow.ensures.grows c.first-item.result c.args.outer.now _ (first-rest c.args.outer.now c.first-item.result c.in-len1-up.len_at_least c.first-item.is) c.args.ty c.in_ok-inner-in-len1-up.inner c.in_ok-r-in-len1-up.r c.requires.outer c.in_ok-inner-in-len1-up.ensures.within c.in_ok-inner-in-len1-up.ensures.value c.in_ok-r-in-len1-up.ensures.made

pub returns-in_ok-r-in-len1-up-clause-grows : goal.returns-in_ok-r-in-len1-up-clause-grows
returns-in_ok-r-in-len1-up-clause-grows t c = extends-trans c.function_type.ensures.grows c.arrow.ensures.grows
