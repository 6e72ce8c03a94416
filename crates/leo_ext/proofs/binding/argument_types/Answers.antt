use Rattle.std.proofs.Common.{arith, refl}
use Rattle.leo_terms.proofs.CallerLemmas.{arrow-parts}
use Rattle.leo_ext.proofs.BoundMaking.{arguments-next, arguments-all, types-end}
use Rattle.leo_ext.proofs.binding.argument_types.Goals as goal

pub loop-from-init : goal.loop-from-init
loop-from-init c = rw c.new-types.ensures.items (refl, tt, c.requires)

pub loop-from-preserved : goal.loop-from-preserved
loop-from-preserved c =
    let p = arrow-parts c.in-Arrow.ensures.sound (record { arrow_node = c.in-Arrow.ensures.view }) in
    let a = p.0 in
    let x = p.1 in
    let y = p.2 in
    rw c.in_ok-push.ensures.items (
      arguments-next c.args.bank.now c.in-Arrow.ensures.sound c.loop-from.types.items c.in-Arrow.from c.in-Arrow.to c.loop-from.rest _ c.in-Arrow.ensures.view c.loop-from.invariant.0,
      types-end c.args.bank.now c.loop-from.types.items c.in-Arrow.from c.loop-from.invariant.1 (omega arith),
      omega arith,
    )

pub loop-from-smaller : goal.loop-from-smaller
loop-from-smaller c = (arrow-parts c.in-Arrow.ensures.sound (record { arrow_node = c.in-Arrow.ensures.view })).2

pub returns : goal.returns
returns c = record {
  of_bank = c.loop-from.invariant.1;
  reads = arguments-all c.args.bank.now c.view_ty.ensures.sound c.loop-from.types.items c.loop-from.rest c.view_ty.result _ c.view_ty.ensures.view c.in_default.not-Arrow c.loop-from.invariant.0;
}
