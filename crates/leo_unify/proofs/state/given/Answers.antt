use Rattle.std.proofs.Common.{refl, arith}
use Rattle.leo_terms.proofs.CallerLemmas.{extends-itself, extends-trans, are_terms-kept}
use Rattle.leo_unify.proofs.StateLemmas.{types-at, given-next}
use Rattle.leo_unify.proofs.BodySteps.{terms-end, no-terms}
use Rattle.leo_unify.proofs.state.given.Goals as goal

pub loop-place-init : goal.loop-place-init
loop-place-init c = (extends-itself c.is_sound.ensures.sound, rw c.new-given.ensures.items (no-terms c.args.bank.now), rw c.new-given.ensures.items refl)

pub given_at-requires-clause-ty : goal.given_at-requires-clause-ty
given_at-requires-clause-ty c =
    let h = types-at c.args.bank.now c.args.vars.now c.requires.vars c.loop-place.place c.index-vars-place.result c.loop-place-test.true c.index-vars-place.is in
    let m = c.loop-place.invariant.0.types_more in
    omega arith

pub returns-in_err-next-clause-grows : goal.returns-in_err-next-clause-grows
returns-in_err-next-clause-grows c = extends-trans c.loop-place.invariant.0 c.given_at.ensures.grows

pub returns-in_err-push-clause-grows : goal.returns-in_err-push-clause-grows
returns-in_err-push-clause-grows c = extends-trans c.loop-place.invariant.0 c.given_at.ensures.grows

pub loop-place-preserved : goal.loop-place-preserved
loop-place-preserved c =
    let e = c.loop-place.invariant.0 in
    let f = c.given_at.ensures.grows in (
      extends-trans e f,
      rw c.in_ok-push.ensures.items (terms-end c.given_at.new.bank c.loop-place.given.items c.in_ok-next.next (are_terms-kept f c.loop-place.given.items c.loop-place.invariant.1) c.in_ok-next.ensures.within),
      rw c.in_ok-push.ensures.items (given-next e f c.args.vars.now c.args.number c.args.term c.loop-place.place c.index-vars-place.result c.in_ok-next.next c.loop-place.given.items c.requires.vars c.requires.term c.loop-place.invariant.1 c.loop-place-test.true c.index-vars-place.is c.in_ok-next.ensures.value c.loop-place.invariant.2),
    )
