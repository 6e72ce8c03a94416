use Rattle.std.proofs.Common.{◌≡◌, ◌∙◌, ◌+◌, refl, arith}
use Rattle.leo_terms.proofs.CallerLemmas.{extends-itself, extends-trans}
use Rattle.leo_kernel.proofs.Numbers.{types-at}
use Rattle.leo_kernel.proofs.MovedVariables.{terms-none, terms-next, variables-next}
use Rattle.leo_para.proofs.moving.moved_variables.Goals as goal

pub loop-ty-init : goal.loop-ty-init
loop-ty-init c =
    let z = c.new-variables.ensures.items in
    let f = c.from-number.ensures in
    (extends-itself c.is_sound.ensures.sound, omega arith, terms-none c.args.bank.now c.new-variables.result.items z, rw z refl)

pub make_var-requires : goal.make_var-requires
make_var-requires c =
    let l = types-at c.args.bank.now c.args.types.now c.requires c.loop-ty.ty-index c.ty-item.result c.loop-ty-test.true c.ty-item.is in
    let m = c.loop-ty.invariant.0.types_more in
    omega arith

pub returns-in_err-push-clause-grows : goal.returns-in_err-push-clause-grows
returns-in_err-push-clause-grows c = extends-trans c.loop-ty.invariant.0 c.make_var.ensures.grows

pub loop-ty-preserved : goal.loop-ty-preserved
loop-ty-preserved c =
    let e = c.loop-ty.invariant.0 in
    let f = c.make_var.ensures.grows in
    let n : c.in-Ok.fitting ≡ c.args.first + c.loop-ty.ty-index = c.in-Ok.ensures.1 ∙ c.loop-ty.invariant.1 in
    let m = c.in_ok-variable.ensures.made in
    let p = c.in_ok-push.ensures.items in
    let k = c.loop-ty.invariant.1 in (
      extends-trans e f,
      omega arith,
      rw p (terms-next e f c.args.first c.args.types.now c.loop-ty.variables.items c.loop-ty.ty-index c.in_ok-variable.variable c.ty-item.result c.in-Ok.fitting c.loop-ty.invariant.2 m),
      rw p (variables-next e f c.args.first c.args.types.now c.loop-ty.variables.items c.loop-ty.ty-index c.in_ok-variable.variable c.ty-item.result c.in-Ok.fitting c.loop-ty.invariant.2 m c.requires c.loop-ty.invariant.3 c.loop-ty-test.true c.ty-item.is n),
    )
