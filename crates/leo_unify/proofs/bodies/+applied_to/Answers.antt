use Rattle.std.proofs.Common.{rules}
use Rattle.leo_terms.proofs.CallerLemmas.{new_bank, extends-itself, extends-trans}
use Rattle.leo_unify.proofs.Places.{first-rest}
use Rattle.leo_unify.proofs.BodySteps.{applied-first, applied-rest, applied-typed, applied-step}
use Rattle.leo_unify.proofs.bodies.+applied_to.Goals as goal

pub make_app-requires-clause-typed : goal.make_app-requires-clause-typed
make_app-requires-clause-typed t c =
    let s = c.is_sound.ensures.sound in
    applied-first (extends-itself s) (extends-itself s) c.first-item.result c.args.arguments.now _ (first-rest c.args.arguments.now c.first-item.result c.in-len1-up.len_at_least c.first-item.is) c.args.f c.requires.typed.0 s c.requires.arguments c.requires.function c.requires.typed.1

pub applied_to-requires : goal.applied_to-requires
applied_to-requires t c =
    let e = c.make_app.ensures.grows in
    let i = extends-itself (new_bank e) in
    let m = c.in_ok-whole-in-len1-up.ensures.made in
    let split = first-rest c.args.arguments.now c.first-item.result c.in-len1-up.len_at_least c.first-item.is in
    (search rules, (m.within, (applied-rest e i c.first-item.result c.args.arguments.now _ split c.requires.arguments, (c.requires.typed.0, applied-typed e i c.first-item.result c.args.arguments.now _ split c.args.f c.in_ok-whole-in-len1-up.whole _ c.requires.typed.0 c.requires.arguments c.requires.typed.1 m))))

pub returns-in_err-r-in-len1-up-clause-grows : goal.returns-in_err-r-in-len1-up-clause-grows
returns-in_err-r-in-len1-up-clause-grows t c = extends-trans c.make_app.ensures.grows c.applied_to.ensures.grows

pub returns-in-empty-clause-grows : goal.returns-in-empty-clause-grows
returns-in-empty-clause-grows t c = extends-itself c.is_sound.ensures.sound

pub returns-in_ok-r-in-len1-up-clause-value : goal.returns-in_ok-r-in-len1-up-clause-value
returns-in_ok-r-in-len1-up-clause-value t c =
    applied-step c.make_app.ensures.grows c.applied_to.ensures.grows c.first-item.result c.args.arguments.now _ (first-rest c.args.arguments.now c.first-item.result c.in-len1-up.len_at_least c.first-item.is) c.args.f c.in_ok-whole-in-len1-up.whole _ c.in_ok-r-in-len1-up.r c.requires.arguments c.in_ok-whole-in-len1-up.ensures.made c.in_ok-r-in-len1-up.ensures.value

pub returns-in_ok-r-in-len1-up-clause-grows : goal.returns-in_ok-r-in-len1-up-clause-grows
returns-in_ok-r-in-len1-up-clause-grows t c = extends-trans c.make_app.ensures.grows c.applied_to.ensures.grows
