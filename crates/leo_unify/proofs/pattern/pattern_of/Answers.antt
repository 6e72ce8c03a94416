use Rattle.std.proofs.Common.{◌∙◌, sym, ◌<◌, length, refl, arith}
use Rattle.leo_terms.proofs.CallerLemmas.{extends-itself, extends-trans, type_number-within, reads-var, reads-bound, reads-sym, reads-app, reads-lam, reads-logic}
use Rattle.leo_unify.proofs.Growing.{types-grow, types-end}
use Rattle.leo_unify.proofs.PatternSteps.{before-app, before-no_app}
use Rattle.leo_unify.proofs.pattern.pattern_of.Goals as goal

pub loop-number-init : goal.loop-number-init
loop-number-init c = (extends-itself c.is_sound.ensures.sound, c.requires, rw c.new-types.ensures tt, rw (c.new-order.ensures, c.new-types.ensures) refl)

pub returns-in-Var-clause-value : goal.returns-in-Var-clause-value
returns-in-Var-clause-value c = rw (reads-var c.in-Var.ensures.sound c.loop-number.part _ c.in-Var.ensures.view) at c.loop-number.invariant.3

pub returns-in-Bound-clause-value : goal.returns-in-Bound-clause-value
returns-in-Bound-clause-value c = rw (reads-bound c.in-Bound.ensures.sound c.loop-number.part _ c.in-Bound.ensures.view) at c.loop-number.invariant.3

pub returns-in-Sym-clause-value : goal.returns-in-Sym-clause-value
returns-in-Sym-clause-value c = rw (reads-sym c.in-Sym.ensures.sound c.loop-number.part _ c.in-Sym.ensures.view) at c.loop-number.invariant.3

pub returns-in-Lam-clause-value : goal.returns-in-Lam-clause-value
returns-in-Lam-clause-value c = rw (reads-lam c.in-Lam.ensures.sound c.loop-number.part _ _ c.in-Lam.ensures.view) at c.loop-number.invariant.3

pub returns-in-Logic-clause-value : goal.returns-in-Logic-clause-value
returns-in-Logic-clause-value c = rw (reads-logic c.in-Logic.ensures.sound c.loop-number.part _ _ _ c.in-Logic.ensures.view) at c.loop-number.invariant.3

pub returns-in_err-index-in-App-clause-grows : goal.returns-in_err-index-in-App-clause-grows
returns-in_err-index-in-App-clause-grows c = extends-trans c.loop-number.invariant.0 c.new_index.ensures.grows

pub returns-in-None-clause-value : goal.returns-in-None-clause-value
returns-in-None-clause-value c =
    before-no_app c.loop-number.bank c.loop-number.types c.loop-number.order c.loop-number.part c.in-App.f c.in-App.x _
    (reads-app c.in-App.ensures.sound c.loop-number.part _ _ c.in-App.ensures.view) (sym c.in-None.is ∙ (rw c.as_slice.ensures at c.in_ok-index-in-App.ensures.value)) c.loop-number.invariant.3

pub returns-in-None-clause-grows : goal.returns-in-None-clause-grows
returns-in-None-clause-grows c = extends-trans c.loop-number.invariant.0 c.new_index.ensures.grows

pub returns-in_err-push-in-Some-clause-grows : goal.returns-in_err-push-in-Some-clause-grows
returns-in_err-push-in-Some-clause-grows c = extends-trans c.loop-number.invariant.0 c.new_index.ensures.grows

pub returns-in_err-push-in-Some-2-clause-grows : goal.returns-in_err-push-in-Some-2-clause-grows
returns-in_err-push-in-Some-2-clause-grows c = extends-trans c.loop-number.invariant.0 c.new_index.ensures.grows

pub loop-number-preserved : goal.loop-number-preserved
loop-number-preserved c =
    let b = c.in-App.ensures.sound in
    let v = c.in-App.ensures.typed in
    let p = v.function_below in
    let q = v.argument_below in
    let w = c.loop-number.invariant.1 in
    let e = c.new_index.ensures.grows in
    let m = e.terms_more in
    let x : c.in-App.x < length c.loop-number.bank.terms = omega arith in
    let f : c.in-App.f < length c.loop-number.bank.terms = omega arith in
    let t = type_number-within b c.in-App.x x in (
      extends-trans c.loop-number.invariant.0 e,
      omega arith,
      rw (c.in_ok-push-in-Some-2.ensures.ok, c.type_of-ty.ensures.number) (types-end c.new_index.new.bank c.loop-number.types _ (types-grow e c.loop-number.types c.loop-number.invariant.2) (let z = e.types_more in omega arith)),
      rw (c.in_ok-push-in-Some.ensures.ok, c.in_ok-push-in-Some-2.ensures.ok, c.type_of-ty.ensures.number)
          (before-app e c.loop-number.types c.loop-number.order c.loop-number.part c.in-App.f c.in-App.x c.in-Some.index _ b c.loop-number.invariant.2 f x t (reads-app b c.loop-number.part _ _ c.in-App.ensures.view) (sym c.in-Some.is ∙ (rw c.as_slice.ensures at c.in_ok-index-in-App.ensures.value)) c.loop-number.invariant.3),
    )
