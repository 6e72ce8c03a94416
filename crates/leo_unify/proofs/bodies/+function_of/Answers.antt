use Rattle.leo_terms.proofs.CallerLemmas.{new_bank, extends-itself, extends-trans}
use Rattle.leo_unify.proofs.Places.{first-rest}
use Rattle.leo_unify.proofs.BodySteps.{function-bound, function-step}
use Rattle.leo_unify.proofs.bodies.+function_of.Goals as goal

pub make_lam-requires-clause-typed : goal.make_lam-requires-clause-typed
make_lam-requires-clause-typed t c =
    let e = c.function_of.ensures.grows in
    function-bound e (extends-itself (new_bank e)) c.first-item.result c.args.outer.now _ (first-rest c.args.outer.now c.first-item.result c.in-len1-up.len_at_least c.first-item.is) c.args.body c.in_ok-inner-in-len1-up.inner c.requires.outer c.requires.indexed c.in_ok-inner-in-len1-up.ensures.value

pub returns-in_err-r-in-len1-up-clause-grows : goal.returns-in_err-r-in-len1-up-clause-grows
returns-in_err-r-in-len1-up-clause-grows t c = extends-trans c.function_of.ensures.grows c.make_lam.ensures.grows

pub returns-in-empty-clause-grows : goal.returns-in-empty-clause-grows
returns-in-empty-clause-grows t c = extends-itself c.is_sound.ensures.sound

pub returns-in_ok-r-in-len1-up-clause-value : goal.returns-in_ok-r-in-len1-up-clause-value
returns-in_ok-r-in-len1-up-clause-value t c =
    function-step c.function_of.ensures.grows c.make_lam.ensures.grows c.first-item.result c.args.outer.now _ (first-rest c.args.outer.now c.first-item.result c.in-len1-up.len_at_least c.first-item.is) c.args.body c.in_ok-inner-in-len1-up.inner c.in_ok-r-in-len1-up.r _ c.requires.outer c.in_ok-inner-in-len1-up.ensures.value c.in_ok-r-in-len1-up.ensures.made

pub returns-in_ok-r-in-len1-up-clause-grows : goal.returns-in_ok-r-in-len1-up-clause-grows
returns-in_ok-r-in-len1-up-clause-grows t c = extends-trans c.function_of.ensures.grows c.make_lam.ensures.grows
