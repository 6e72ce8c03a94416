use Rattle.std.proofs.Common.{refl}
use Rattle.leo_terms.proofs.CallerLemmas.{extends-itself, extends-trans}
use Rattle.leo_unify.proofs.BodySteps.{frame-grows}
use Rattle.leo_unify.proofs.GuessSteps.{binder-within, binder-head, binder-indexed, bindings-grow, bindings-of-append, projection-next}
use Rattle.leo_unify.proofs.guesses.and_projections.Goals as goal

pub loop-place-init : goal.loop-place-init
loop-place-init c = (extends-itself c.is_sound.ensures.sound, c.requires.within, refl)

pub projection-requires-clause-frame : goal.projection-requires-clause-frame
projection-requires-clause-frame c = frame-grows c.loop-place.invariant.0 c.args.frame.now c.requires.frame

pub projection-requires-clause-within : goal.projection-requires-clause-within
projection-requires-clause-within c = binder-within c.loop-place.invariant.0 c.args.frame.now c.requires.frame c.loop-place.place c.index-binders-place.result (rw c.as_slice-binders.ensures at c.loop-place-test.true) (rw c.as_slice-binders.ensures at c.index-binders-place.is)

pub projection-requires-clause-head : goal.projection-requires-clause-head
projection-requires-clause-head c = binder-head c.loop-place.invariant.0 c.args.frame.now c.requires.frame c.loop-place.place c.index-binders-place.result (rw c.as_slice-binders.ensures at c.loop-place-test.true) (rw c.as_slice-binders.ensures at c.index-binders-place.is)

pub projection-requires-clause-indexed : goal.projection-requires-clause-indexed
projection-requires-clause-indexed c = binder-indexed c.loop-place.invariant.0 c.args.frame.now c.requires.frame c.loop-place.place c.index-binders-place.result (rw c.as_slice-binders.ensures at c.loop-place-test.true) (rw c.as_slice-binders.ensures at c.index-binders-place.is)

pub returns-in_err-one-clause-grows : goal.returns-in_err-one-clause-grows
returns-in_err-one-clause-grows c = extends-trans c.loop-place.invariant.0 c.projection.ensures.grows

pub returns-in_err-all-clause-grows : goal.returns-in_err-all-clause-grows
returns-in_err-all-clause-grows c = extends-trans c.loop-place.invariant.0 c.projection.ensures.grows

pub loop-place-preserved : goal.loop-place-preserved
loop-place-preserved c =
    let f = c.projection.ensures.grows in (
      extends-trans c.loop-place.invariant.0 f,
      rw c.in_ok-all.ensures (bindings-of-append c.projection.new.bank c.loop-place.all _ (bindings-grow f c.loop-place.all c.loop-place.invariant.1) c.in_ok-one.ensures.within),
      rw c.in_ok-all.ensures (projection-next c.loop-place.invariant.0 c.args.frame.now c.requires.frame c.loop-place.place c.index-binders-place.result (rw c.as_slice-binders.ensures at c.loop-place-test.true) (rw c.as_slice-binders.ensures at c.index-binders-place.is) f c.args.result_ty c.requires.ends c.loop-place.all c.in_ok-one.one c.loop-place.invariant.1 _ c.in_ok-one.ensures.value c.loop-place.invariant.2),
    )
