use Rattle.std.proofs.Common.{◌≡◌, ◌+◌, map, refl, arith}
use Rattle.leo_terms.specs.Contents.{type_at}
use Rattle.leo_terms.proofs.CallerLemmas.{extends-itself, extends-trans, are_terms-kept}
use Rattle.leo_unify.proofs.Growing.{types-grow, types-end, types-kept}
use Rattle.leo_unify.proofs.BodySteps.{no-terms, terms-end, type-within, frame-grows, fresh-types_next, fresh-values_next}
use Rattle.leo_unify.proofs.bodies.fresh.Goals as goal

pub loop-place-init : goal.loop-place-init
loop-place-init c =
    let z : c.args.frame.now.next + 0 ≡ c.args.frame.now.next = omega arith in
    (extends-itself c.is_sound.ensures.sound, omega arith, rw c.new-types.ensures tt, rw c.new-types.ensures refl, rw c.new-values.ensures (no-terms c.args.bank.now), rw (c.new-values.ensures, z) refl)

pub fresh_value-requires-clause-frame : goal.fresh_value-requires-clause-frame
fresh_value-requires-clause-frame c = frame-grows c.loop-place.invariant.0 c.args.frame.now c.requires.frame

pub fresh_value-requires-clause-ty : goal.fresh_value-requires-clause-ty
fresh_value-requires-clause-ty c = type-within c.loop-place.invariant.0 c.args.taken.now c.requires.taken c.loop-place.place c.index-taken-place.result c.loop-place-test.true c.index-taken-place.is

pub returns-in_err-fresh-clause-grows : goal.returns-in_err-fresh-clause-grows
returns-in_err-fresh-clause-grows c = extends-trans c.loop-place.invariant.0 c.fresh_value.ensures.grows

pub returns-in_err-push-clause-grows : goal.returns-in_err-push-clause-grows
returns-in_err-push-clause-grows c = extends-trans c.loop-place.invariant.0 c.fresh_value.ensures.grows

pub returns-in_err-push-2-clause-grows : goal.returns-in_err-push-2-clause-grows
returns-in_err-push-2-clause-grows c = extends-trans c.loop-place.invariant.0 c.fresh_value.ensures.grows

pub returns-in_default-clause-grows : goal.returns-in_default-clause-grows
returns-in_default-clause-grows c = extends-trans c.loop-place.invariant.0 c.fresh_value.ensures.grows

pub loop-place-preserved : goal.loop-place-preserved
loop-place-preserved c =
    let e = c.loop-place.invariant.0 in
    let f = c.fresh_value.ensures.grows in
    let n = c.loop-place.invariant.1 in
    let k = c.in-Some.ensures in
    let outer = types-kept e c.args.frame.now.outer c.requires.frame.types_of in (
      extends-trans e f,
      omega arith,
      rw c.in_ok-push.ensures.ok (types-end c.fresh_value.new.bank c.loop-place.types c.in_ok-fresh.fresh.ty (types-grow f c.loop-place.types c.loop-place.invariant.2) c.in_ok-fresh.ensures.types_within),
      rw c.in_ok-push.ensures.ok (fresh-types_next e f (map (type_at c.args.bank.now) c.args.frame.now.outer) c.args.taken.now c.loop-place.place c.index-taken-place.result c.args.frame.now.next c.requires.taken c.loop-place-test.true c.index-taken-place.is c.loop-place.types c.in_ok-fresh.fresh.ty c.loop-place.invariant.2 (rw outer at c.in_ok-fresh.ensures.types) c.loop-place.invariant.3),
      rw c.in_ok-push-2.ensures.ok (terms-end c.fresh_value.new.bank c.loop-place.values c.in_ok-fresh.fresh.value (are_terms-kept f c.loop-place.values c.loop-place.invariant.4) c.in_ok-fresh.ensures.within),
      rw c.in_ok-push-2.ensures.ok (fresh-values_next e f (map (type_at c.args.bank.now) c.args.frame.now.outer) c.args.taken.now c.loop-place.place c.index-taken-place.result c.args.frame.now.next c.requires.taken c.loop-place-test.true c.index-taken-place.is c.loop-place.values c.in_ok-fresh.fresh.value c.loop-place.number _ c.loop-place.invariant.4 n (rw outer at c.in_ok-fresh.ensures.value) c.loop-place.invariant.5),
    )
