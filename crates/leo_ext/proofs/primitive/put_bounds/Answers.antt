use Rattle.std.proofs.Common.{ap, map}
use Rattle.leo_terms.specs.Contents.{type_at}
use Rattle.leo_terms.proofs.CallerLemmas.{extends-itself, extends-trans}
use Rattle.leo_clause.specs.Trees.{clause_at}
use Rattle.leo_ext.specs.Binding.{argument_types}
use Rattle.leo_ext.specs.Bounds.{binding_at}
use Rattle.leo_ext.specs.Members.{primitive_member}
use Rattle.leo_ext.proofs.Adding.{adds-as, adds-nothing, typed-grow}
use Rattle.leo_ext.proofs.BoundMaking.{bounds-grow}
use Rattle.leo_ext.proofs.BoundMembers.{arguments-grow, bound-at, fits-at, fits-grow, head-grow, member-kept, members-next}
use Rattle.leo_ext.proofs.Loops.{take-all}
use Rattle.leo_ext.proofs.primitive.put_bounds.Goals as goal

pub loop-bound-init : goal.loop-bound-init
loop-bound-init c = adds-nothing (extends-itself c.is_sound.ensures.sound) c.args.dues.now.items

pub put_bound-requires-clause-clause : goal.put_bound-requires-clause-clause
put_bound-requires-clause-clause c = typed-grow c.loop-bound.invariant.extends c.args.clause.now c.requires.clause

pub put_bound-requires-clause-variable : goal.put_bound-requires-clause-variable
put_bound-requires-clause-variable c = head-grow c.loop-bound.invariant.extends c.args.clause.now c.requires.clause.of_bank c.args.variable.now c.requires.variable

pub put_bound-requires-clause-types : goal.put_bound-requires-clause-types
put_bound-requires-clause-types c = arguments-grow c.loop-bound.invariant.extends c.args.variable.now.ty c.args.types.now c.requires.variable.type_within c.requires.types

pub put_bound-requires-clause-bound : goal.put_bound-requires-clause-bound
put_bound-requires-clause-bound c = bound-at c.loop-bound.bank c.args.bounds.now (bounds-grow c.loop-bound.invariant.extends c.args.bounds.now c.requires.bounds) c.loop-bound.bound-index c.bound-item.result c.loop-bound-test.true c.bound-item.is

pub put_bound-requires-clause-fits : goal.put_bound-requires-clause-fits
put_bound-requires-clause-fits c =
    fits-grow c.loop-bound.invariant.extends c.args.clause.now c.requires.clause c.args.variable.now c.requires.variable c.bound-item.result
    (bound-at c.args.bank.now c.args.bounds.now c.requires.bounds c.loop-bound.bound-index c.bound-item.result c.loop-bound-test.true c.bound-item.is)
    (fits-at c.args.bank.now (map (type_at c.args.bank.now) c.args.clause.now.vars) (argument_types (type_at c.args.bank.now c.args.variable.now.ty)) c.args.bounds.now c.requires.fits c.loop-bound.bound-index c.bound-item.result c.loop-bound-test.true c.bound-item.is)

pub returns-in_err-put_bound-clause-grows : goal.returns-in_err-put_bound-clause-grows
returns-in_err-put_bound-clause-grows c = extends-trans c.loop-bound.invariant.extends c.put_bound.ensures.grows

pub loop-bound-preserved : goal.loop-bound-preserved
loop-bound-preserved c =
    let binding = bound-at c.args.bank.now c.args.bounds.now c.requires.bounds c.loop-bound.bound-index c.bound-item.result c.loop-bound-test.true c.bound-item.is in
    members-next c.args.clause.now c.args.variable.now c.args.before c.args.bounds.now c.loop-bound.bound-index c.bound-item.result c.args.dues.now.items c.loop-bound.dues.items c.put_bound.new.dues.items c.loop-bound-test.true c.bound-item.is c.loop-bound.invariant
    (member-kept c.loop-bound.invariant.extends c.args.clause.now c.requires.clause c.args.variable.now c.requires.variable c.bound-item.result binding c.args.before)
    c.in_ok-put_bound.ensures.adds

pub returns-clause-adds : goal.returns-clause-adds
returns-clause-adds c =
    adds-as c.args.dues.now.items c.loop-bound.dues.items _ _ c.loop-bound.invariant
    (ap (λ bs. map (primitive_member c.args.before (clause_at c.args.bank.now c.args.clause.now) c.args.variable.now.number (type_at c.args.bank.now c.args.variable.now.ty)) (map (binding_at c.args.bank.now) bs)) (take-all c.args.bounds.now c.loop-bound.bound-index c.loop-bound-test.false))

pub returns-clause-grows : goal.returns-clause-grows
returns-clause-grows c = c.loop-bound.invariant.extends
