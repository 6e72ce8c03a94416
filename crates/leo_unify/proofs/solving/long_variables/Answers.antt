use Rattle.std.proofs.Common.{◌≡◌, refl, arith, rules}
use Rattle.leo_terms.proofs.CallerLemmas.{extends-itself, extends-trans, are_terms-kept}
use Rattle.leo_unify.proofs.StateLemmas.{types-at, long-next}
use Rattle.leo_unify.proofs.BodySteps.{terms-end, no-terms}
use Rattle.leo_unify.proofs.solving.long_variables.Goals as goal

pub loop-place-init : goal.loop-place-init
loop-place-init c = (extends-itself c.is_sound.ensures.sound, rw c.new-terms.ensures (no-terms c.args.bank.now), rw c.new-terms.ensures refl)

pub make_var-requires : goal.make_var-requires
make_var-requires c =
    let h = types-at c.args.bank.now c.args.vars.now c.requires c.loop-place.place c.index-vars-place.result c.loop-place-test.true c.index-vars-place.is in
    let m = c.loop-place.invariant.0.types_more in
    omega arith

pub returns-in_err-long-clause-grows : goal.returns-in_err-long-clause-grows
returns-in_err-long-clause-grows c = extends-trans (extends-trans c.loop-place.invariant.0 c.make_var.ensures.grows) c.normal.ensures.grows

pub returns-in_err-push-clause-grows : goal.returns-in_err-push-clause-grows
returns-in_err-push-clause-grows c = extends-trans (extends-trans c.loop-place.invariant.0 c.make_var.ensures.grows) c.normal.ensures.grows

pub loop-place-preserved : goal.loop-place-preserved
loop-place-preserved c =
    let e = c.loop-place.invariant.0 in
    let g = c.make_var.ensures.grows in
    let k = c.normal.ensures.grows in
    let n : c.in-Ok.number ≡ c.loop-place.place = search rules in (
      extends-trans (extends-trans e g) k,
      rw c.in_ok-push.ensures.ok (terms-end c.normal.new.self c.loop-place.terms c.in_ok-long.long (are_terms-kept (extends-trans g k) c.loop-place.terms c.loop-place.invariant.1) c.in_ok-long.ensures.made.within),
      rw c.in_ok-push.ensures.ok (long-next e g k c.args.vars.now c.loop-place.place c.in-Ok.number c.index-vars-place.result c.in_ok-variable.variable c.in_ok-long.long c.loop-place.terms c.requires c.loop-place.invariant.1 c.loop-place-test.true c.index-vars-place.is n c.in_ok-variable.ensures.made c.in_ok-long.ensures.made c.loop-place.invariant.2),
    )
