use Rattle.std.proofs.Common.{arith}
use Rattle.leo_terms.specs.Contents.{tree_at, type_at}
use Rattle.leo_terms.proofs.CallerLemmas.{extends-itself, extends-trans, type-kept, type_number-within, arrow-parts}
use Rattle.leo_kernel.proofs.ChosenNext.{fresh-start, fresh-applies, fresh-falls, fresh-more, fresh-leads, fresh-nowhere, fresh-done, type-other, type-same}
use Rattle.leo_kernel.proofs.chosen_matching.with_fresh.Goals as goal

pub returns-then-range-from-clause-grows : goal.returns-then-range-from-clause-grows
returns-then-range-from-clause-grows c = extends-itself c.is_sound.ensures.sound

pub loop-ty-init : goal.loop-ty-init
loop-ty-init c = record {
  grows = extends-itself c.is_sound.ensures.sound;
  fresh = fresh-start c.args.bank.now c.args.t c.args.top c.requires.within;
  low = let r = c.variable_range-range.ensures.range in let k = c.from.ensures in let l = c.if-range-from.false in omega arith;
  leads = λ h. h;
}

pub view_ty-requires : goal.view_ty-requires
view_ty-requires c = rw c.type_of-found.ensures.number (type_number-within c.type_of-found.ensures.sound c.loop-ty.whole c.loop-ty.invariant.fresh.within)

pub returns-in-Base-clause-value : goal.returns-in-Base-clause-value
returns-in-Base-clause-value c = λ h. fresh-nowhere c.loop-ty.bank c.type_of.ensures.sound c.loop-ty.whole c.type_of-found.result c.in-Base.field-0 (type_at c.args.bank.now c.args.ty) c.loop-ty.invariant.fresh.within c.type_of-found.ensures.number c.in-Base.ensures.view (rw (type-kept c.loop-ty.invariant.grows c.args.ty c.requires.ty) at (type-other c.loop-ty.bank c.type_of.ensures.sound c.loop-ty.whole c.type_of.result c.args.ty c.loop-ty.invariant.fresh.within (let m = c.loop-ty.invariant.grows.types_more in let k = c.requires.ty in omega arith) c.type_of.ensures.number c.ne.result c.ne.ensures c.loop-ty-test.true)) (c.loop-ty.invariant.leads h)

pub make_var-requires : goal.make_var-requires
make_var-requires c = let p = arrow-parts c.view_ty.ensures.sound (record { arrow_node = c.in-Arrow.ensures.view }) in let l = p.0 in let m = p.1 in omega arith

pub make_app-requires-clause-typed : goal.make_app-requires-clause-typed
make_app-requires-clause-typed c = fresh-applies c.make_var.ensures.grows (tree_at c.args.bank.now c.args.t) c.loop-ty.invariant.fresh c.type_of-found.ensures.number c.in-Arrow.ensures.view c.in_ok-x-in-Arrow.ensures.made

pub returns-in_err-whole-in-Arrow-clause-grows : goal.returns-in_err-whole-in-Arrow-clause-grows
returns-in_err-whole-in-Arrow-clause-grows c = extends-trans c.loop-ty.invariant.grows (extends-trans c.make_var.ensures.grows c.make_app.ensures.grows)

pub loop-ty-smaller : goal.loop-ty-smaller
loop-ty-smaller c = fresh-falls c.make_var.ensures.grows (tree_at c.args.bank.now c.args.t) c.loop-ty.invariant.fresh c.type_of-found.ensures.number c.in-Arrow.ensures.view c.in_ok-x-in-Arrow.ensures.made c.in_ok-whole-in-Arrow.ensures.made

pub loop-ty-preserved : goal.loop-ty-preserved
loop-ty-preserved c =
    let r = c.variable_range-range.ensures.range in
    let l = c.if-from-range.false in
    let k = c.from-in-Arrow.ensures in
    record {
      grows = extends-trans c.loop-ty.invariant.grows (extends-trans c.make_var.ensures.grows c.make_app.ensures.grows);
      fresh = fresh-more c.make_var.ensures.grows (tree_at c.args.bank.now c.args.t) c.loop-ty.invariant.fresh c.type_of-found.ensures.number c.in-Arrow.ensures.view c.in_ok-x-in-Arrow.ensures.made c.in_ok-whole-in-Arrow.ensures.made (omega arith);
      low = omega arith;
      leads = λ h. fresh-leads c.make_var.ensures.grows (tree_at c.args.bank.now c.args.t) c.loop-ty.invariant.fresh c.type_of-found.ensures.number c.in-Arrow.ensures.view c.in_ok-x-in-Arrow.ensures.made c.in_ok-whole-in-Arrow.ensures.made (type_at c.args.bank.now c.args.ty) (rw (type-kept c.loop-ty.invariant.grows c.args.ty c.requires.ty) at (type-other c.loop-ty.bank c.type_of.ensures.sound c.loop-ty.whole c.type_of.result c.args.ty c.loop-ty.invariant.fresh.within (let m = c.loop-ty.invariant.grows.types_more in let k = c.requires.ty in omega arith) c.type_of.ensures.number c.ne.result c.ne.ensures c.loop-ty-test.true)) (c.loop-ty.invariant.leads h);
    }

pub returns-clause-value : goal.returns-clause-value
returns-clause-value c = fresh-done c.loop-ty.bank c.args.top (type_at c.args.bank.now c.args.ty) (tree_at c.args.bank.now c.args.t) c.loop-ty.whole c.loop-ty.number c.loop-ty.invariant.fresh c.loop-ty.invariant.low (rw (type-kept c.loop-ty.invariant.grows c.args.ty c.requires.ty) at (type-same c.loop-ty.bank c.type_of.ensures.sound c.loop-ty.whole c.type_of.result c.args.ty c.loop-ty.invariant.fresh.within c.type_of.ensures.number c.ne.result c.ne.ensures c.loop-ty-test.false))
