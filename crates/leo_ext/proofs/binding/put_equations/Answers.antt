use Rattle.std.proofs.Common.{arith, ap, map}
use Rattle.leo_terms.specs.Contents.{type_at}
use Rattle.leo_terms.proofs.CallerLemmas.{extends-itself, extends-trans}
use Rattle.leo_clause.proofs.Renaming.{types-at}
use Rattle.leo_kernel.proofs.Growing.{types-grow}
use Rattle.leo_ext.specs.Binding.{equation_binding}
use Rattle.leo_ext.proofs.BoundMaking.{equations-next, puts-as, puts-nothing}
use Rattle.leo_ext.proofs.Loops.{take-all}
use Rattle.leo_ext.proofs.binding.put_equations.Goals as goal

pub loop-side-init : goal.loop-side-init
loop-side-init c = puts-nothing (extends-itself c.is_sound.ensures.sound) c.args.bounds.now.items

pub equation_bound-requires-clause-types : goal.equation_bound-requires-clause-types
equation_bound-requires-clause-types c = types-grow c.loop-side.invariant.extends c.args.types.now c.requires.types

pub equation_bound-requires-clause-ty : goal.equation_bound-requires-clause-ty
equation_bound-requires-clause-ty c =
    let l = types-at c.args.bank.now c.args.sides.now c.requires.sides c.loop-side.side-index c.side-item.result c.loop-side-test.true c.side-item.is in
    let m = c.loop-side.invariant.extends.types_more in
    omega arith

pub returns-in_err-bound-clause-grows : goal.returns-in_err-bound-clause-grows
returns-in_err-bound-clause-grows c = extends-trans c.loop-side.invariant.extends c.equation_bound.ensures.grows

pub returns-in_err-push-clause-grows : goal.returns-in_err-push-clause-grows
returns-in_err-push-clause-grows c = extends-trans c.loop-side.invariant.extends c.equation_bound.ensures.grows

pub loop-side-preserved : goal.loop-side-preserved
loop-side-preserved c =
    equations-next c.equation_bound.ensures.grows c.args.types.now c.args.sides.now c.requires.types c.requires.sides c.args.next c.loop-side.side-index c.side-item.result c.args.bounds.now.items c.loop-side.bounds.items c.push.new.self.items c.in_ok-bound.bound c.loop-side-test.true c.side-item.is c.loop-side.invariant c.in_ok-bound.ensures.made c.in_ok-push.ensures.items

pub returns-clause-adds : goal.returns-clause-adds
returns-clause-adds c =
    puts-as c.args.bounds.now.items c.loop-side.bounds.items _ _ c.loop-side.invariant
    (ap (λ ts. map (equation_binding c.args.next (map (type_at c.args.bank.now) c.args.types.now)) (map (type_at c.args.bank.now) ts)) (take-all c.args.sides.now c.loop-side.side-index c.loop-side-test.false))

pub returns-clause-grows : goal.returns-clause-grows
returns-clause-grows c = c.loop-side.invariant.extends
