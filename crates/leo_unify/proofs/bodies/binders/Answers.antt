use Rattle.std.proofs.Common.{◌≡◌, ◌-◌, length, refl, arith}
use Rattle.leo_terms.proofs.CallerLemmas.{extends-itself, extends-trans, are_terms-kept}
use Rattle.leo_unify.proofs.BodySteps.{no-terms, terms-end, type-within, binders-next}
use Rattle.leo_unify.proofs.bodies.binders.Goals as goal

pub loop-place-init : goal.loop-place-init
loop-place-init c = (extends-itself c.is_sound.ensures.sound, rw c.new-binders.ensures (no-terms c.args.bank.now), rw c.new-binders.ensures refl)

pub make_bound-requires : goal.make_bound-requires
make_bound-requires c = type-within c.loop-place.invariant.0 c.args.outer.now c.requires c.loop-place.place c.index-outer-place.result c.loop-place-test.true c.index-outer-place.is

pub returns-in_err-push-clause-grows : goal.returns-in_err-push-clause-grows
returns-in_err-push-clause-grows c = extends-trans c.loop-place.invariant.0 c.make_bound.ensures.grows

pub loop-place-preserved : goal.loop-place-preserved
loop-place-preserved c =
    let e = c.loop-place.invariant.0 in
    let f = c.make_bound.ensures.grows in
    let k = c.in-Ok.ensures in
    let n : c.in-Ok.index ≡ length c.args.outer.now - c.loop-place.place - 1 = omega arith in (
      extends-trans e f,
      rw c.in_ok-push.ensures.ok (terms-end c.make_bound.new.self c.loop-place.binders c.in_ok-binder.binder (are_terms-kept f c.loop-place.binders c.loop-place.invariant.1) c.in_ok-binder.ensures.made.within),
      rw c.in_ok-push.ensures.ok (binders-next e f c.args.outer.now c.loop-place.place c.index-outer-place.result c.in-Ok.index c.in_ok-binder.binder c.loop-place.binders _ c.requires c.loop-place.invariant.1 c.loop-place-test.true c.index-outer-place.is n c.in_ok-binder.ensures.made c.loop-place.invariant.2),
    )
