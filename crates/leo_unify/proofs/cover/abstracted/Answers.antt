use Rattle.std.proofs.Common.{refl}
use Rattle.leo_terms.proofs.CallerLemmas.{extends-itself, extends-trans}
use Rattle.leo_unify.proofs.CoverSteps.{next-type, next-bound, next-types, next-abstracted}
use Rattle.leo_unify.proofs.cover.abstracted.Goals as goal

pub loop-ty-init : goal.loop-ty-init
loop-ty-init c = (extends-itself c.is_sound.ensures.sound, c.requires.body, c.requires.typed, refl)

pub make_lam-requires-clause-from : goal.make_lam-requires-clause-from
make_lam-requires-clause-from c = next-type c.loop-ty.invariant.0 c.args.types.now c.loop-ty.ty-index c.ty-item.result c.loop-ty.t c.requires.types c.loop-ty-test.true c.ty-item.is c.loop-ty.invariant.2

pub make_lam-requires-clause-typed : goal.make_lam-requires-clause-typed
make_lam-requires-clause-typed c = next-bound c.loop-ty.invariant.0 c.args.types.now c.loop-ty.ty-index c.ty-item.result c.loop-ty.t c.requires.types c.loop-ty-test.true c.ty-item.is c.loop-ty.invariant.2

pub returns-in_err-t-clause-grows : goal.returns-in_err-t-clause-grows
returns-in_err-t-clause-grows c = extends-trans c.loop-ty.invariant.0 c.make_lam.ensures.grows

pub loop-ty-preserved : goal.loop-ty-preserved
loop-ty-preserved c =
    let e = c.loop-ty.invariant.0 in
    let m = c.in_ok-t.ensures.made in (
      extends-trans e c.make_lam.ensures.grows,
      m.within,
      next-types e c.args.types.now c.loop-ty.ty-index c.ty-item.result c.loop-ty.t c.requires.types c.loop-ty-test.true c.ty-item.is c.loop-ty.invariant.2 _ _ m.reads,
      next-abstracted e c.args.types.now c.loop-ty.ty-index c.ty-item.result c.loop-ty.t c.requires.types c.loop-ty-test.true c.ty-item.is c.loop-ty.invariant.2 _ _ _ m.reads c.loop-ty.invariant.3,
    )
