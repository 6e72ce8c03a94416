use Rattle.std.proofs.Common.{◌≡◌, rules}
use Rattle.leo_terms.proofs.CallerLemmas.{extends-itself, extends-trans}
use Rattle.leo_ext.proofs.BoundMaking.{index-applies, index-made}
use Rattle.leo_ext.proofs.binding.of_index.Goals as goal

pub returns-in_default-clause-grows : goal.returns-in_default-clause-grows
returns-in_default-clause-grows c = extends-itself c.is_sound.ensures.sound

pub make_app-requires-clause-typed : goal.make_app-requires-clause-typed
make_app-requires-clause-typed c = index-applies c.make_bound.ensures.grows c.args.f c.in_ok-x.x _ c.args.ty c.requires.within c.requires.function.0 c.requires.function.1 c.in_ok-x.ensures.made

pub returns-in_err-whole-clause-grows : goal.returns-in_err-whole-clause-grows
returns-in_err-whole-clause-grows c = extends-trans c.make_bound.ensures.grows c.make_app.ensures.grows

pub returns-clause-made : goal.returns-clause-made
returns-clause-made c =
    let e : c.in-Ok.number ≡ c.args.index = search (rules, c.in-Ok.ensures) in
    let m = index-made c.make_bound.ensures.grows c.args.f c.in_ok-x.x c.in_ok-whole.whole c.in-Ok.number c.args.ty _ c.requires.within c.in_ok-x.ensures.made c.in_ok-whole.ensures.made in
    rw e at m

pub returns-clause-grows : goal.returns-clause-grows
returns-clause-grows c = extends-trans c.make_bound.ensures.grows c.make_app.ensures.grows
