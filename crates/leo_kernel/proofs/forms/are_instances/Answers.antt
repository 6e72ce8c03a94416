use Rattle.std.proofs.Common.{map, arith}
use Rattle.leo_terms.proofs.CallerLemmas.{extends-itself, extends-trans, are_terms-kept}
use Rattle.leo_terms.specs.Contents.{tree_at}
use Rattle.leo_kernel.proofs.TypedLits.{literals-at}
use Rattle.leo_kernel.proofs.Pairs.{pairs-next}
use Rattle.leo_kernel.proofs.FormRules.{kept-within, instance-there, instances-differ, all-instances, one-other, given-at, given-later}
use Rattle.leo_kernel.proofs.forms.are_instances.Goals as goal

pub returns-then-old-new-clause-value : goal.returns-then-old-new-clause-value
returns-then-old-new-clause-value c = instances-differ c.args.bank.now (map (tree_at c.args.bank.now) c.args.sigma.now) c.args.old.now c.args.new.now c.if-old-new.true

pub returns-then-old-new-clause-grows : goal.returns-then-old-new-clause-grows
returns-then-old-new-clause-grows c = extends-itself c.is_sound.ensures.sound

pub loop-place-init : goal.loop-place-init
loop-place-init c = (extends-itself c.is_sound.ensures.sound, tt)

pub is_instance-requires-clause-old_left : goal.is_instance-requires-clause-old_left
is_instance-requires-clause-old_left c = kept-within c.loop-place.invariant.0 _ (literals-at c.args.bank.now c.args.old.now c.requires.old c.loop-place.place c.index-old-place.result c.loop-place-test.true c.index-old-place.is).0

pub is_instance-requires-clause-old_right : goal.is_instance-requires-clause-old_right
is_instance-requires-clause-old_right c = kept-within c.loop-place.invariant.0 _ (literals-at c.args.bank.now c.args.old.now c.requires.old c.loop-place.place c.index-old-place.result c.loop-place-test.true c.index-old-place.is).1

pub is_instance-requires-clause-new_left : goal.is_instance-requires-clause-new_left
is_instance-requires-clause-new_left c = kept-within c.loop-place.invariant.0 _ (literals-at c.args.bank.now c.args.new.now c.requires.new c.loop-place.place c.index-new-place.result (let t = c.loop-place-test.true in let e = c.if-old-new.false in omega arith) c.index-new-place.is).0

pub is_instance-requires-clause-new_right : goal.is_instance-requires-clause-new_right
is_instance-requires-clause-new_right c = kept-within c.loop-place.invariant.0 _ (literals-at c.args.bank.now c.args.new.now c.requires.new c.loop-place.place c.index-new-place.result (let t = c.loop-place-test.true in let e = c.if-old-new.false in omega arith) c.index-new-place.is).1

pub is_instance-requires-clause-left_given : goal.is_instance-requires-clause-left_given
is_instance-requires-clause-left_given c =
    let o = literals-at c.args.bank.now c.args.old.now c.requires.old c.loop-place.place c.index-old-place.result c.loop-place-test.true c.index-old-place.is in
    given-later c.loop-place.invariant.0 c.args.sigma.now c.requires.terms c.index-old-place.result.left o.0 (given-at (map (tree_at c.args.bank.now) c.args.sigma.now) c.args.bank.now c.args.old.now c.requires.given c.loop-place.place c.index-old-place.result c.loop-place-test.true c.index-old-place.is).0

pub is_instance-requires-clause-right_given : goal.is_instance-requires-clause-right_given
is_instance-requires-clause-right_given c =
    let o = literals-at c.args.bank.now c.args.old.now c.requires.old c.loop-place.place c.index-old-place.result c.loop-place-test.true c.index-old-place.is in
    given-later c.loop-place.invariant.0 c.args.sigma.now c.requires.terms c.index-old-place.result.right o.1 (given-at (map (tree_at c.args.bank.now) c.args.sigma.now) c.args.bank.now c.args.old.now c.requires.given c.loop-place.place c.index-old-place.result c.loop-place-test.true c.index-old-place.is).1

pub is_instance-requires-clause-terms : goal.is_instance-requires-clause-terms
is_instance-requires-clause-terms c = are_terms-kept c.loop-place.invariant.0 c.args.sigma.now c.requires.terms

pub returns-in_err-same-clause-grows : goal.returns-in_err-same-clause-grows
returns-in_err-same-clause-grows c = extends-trans c.loop-place.invariant.0 c.is_instance.ensures.grows

pub returns-then-not-same-clause-value : goal.returns-then-not-same-clause-value
returns-then-not-same-clause-value c =
    let o = literals-at c.args.bank.now c.args.old.now c.requires.old c.loop-place.place c.index-old-place.result c.loop-place-test.true c.index-old-place.is in
    let n = literals-at c.args.bank.now c.args.new.now c.requires.new c.loop-place.place c.index-new-place.result (let t = c.loop-place-test.true in let e = c.if-old-new.false in omega arith) c.index-new-place.is in
    one-other c.args.bank.now (map (tree_at c.args.bank.now) c.args.sigma.now) c.args.old.now c.args.new.now c.loop-place.place c.index-old-place.result c.index-new-place.result c.in_ok-same.same c.loop-place-test.true c.if-old-new.false c.index-old-place.is c.index-new-place.is
    (instance-there c.loop-place.invariant.0 c.args.sigma.now c.requires.terms c.index-old-place.result c.index-new-place.result o.0 o.1 n.0 n.1 c.in_ok-same.same c.in_ok-same.ensures.value) c.if-not-same.true

pub returns-then-not-same-clause-grows : goal.returns-then-not-same-clause-grows
returns-then-not-same-clause-grows c = extends-trans c.loop-place.invariant.0 c.is_instance.ensures.grows

pub loop-place-preserved : goal.loop-place-preserved
loop-place-preserved c =
    let o = literals-at c.args.bank.now c.args.old.now c.requires.old c.loop-place.place c.index-old-place.result c.loop-place-test.true c.index-old-place.is in
    let n = literals-at c.args.bank.now c.args.new.now c.requires.new c.loop-place.place c.index-new-place.result (let t = c.loop-place-test.true in let e = c.if-old-new.false in omega arith) c.index-new-place.is in
    let d = instance-there c.loop-place.invariant.0 c.args.sigma.now c.requires.terms c.index-old-place.result c.index-new-place.result o.0 o.1 n.0 n.1 c.in_ok-same.same c.in_ok-same.ensures.value in (
      extends-trans c.loop-place.invariant.0 c.is_instance.ensures.grows,
      pairs-next _ c.args.old.now c.args.new.now c.loop-place.place c.index-old-place.result c.index-new-place.result c.loop-place.invariant.1 c.loop-place-test.true (let t = c.loop-place-test.true in let e = c.if-old-new.false in omega arith) c.index-old-place.is c.index-new-place.is (d.0 c.if-not-same.false),
    )

pub returns-clause-value : goal.returns-clause-value
returns-clause-value c = all-instances c.args.bank.now (map (tree_at c.args.bank.now) c.args.sigma.now) c.args.old.now c.args.new.now c.loop-place.place c.loop-place-test.false c.if-old-new.false c.loop-place.invariant.1
