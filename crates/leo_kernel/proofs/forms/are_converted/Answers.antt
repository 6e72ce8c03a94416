use Rattle.std.proofs.Common.{arith}
use Rattle.leo_terms.proofs.CallerLemmas.{extends-itself, extends-trans}
use Rattle.leo_kernel.proofs.TypedLits.{literals-at}
use Rattle.leo_kernel.proofs.Pairs.{pairs-next}
use Rattle.leo_kernel.proofs.FormRules.{kept-within, converted-there, lengths-differ, all-converted, one-unconverted}
use Rattle.leo_kernel.proofs.forms.are_converted.Goals as goal

pub returns-then-old-new-clause-value : goal.returns-then-old-new-clause-value
returns-then-old-new-clause-value c = lengths-differ c.args.bank.now c.args.old.now c.args.new.now c.if-old-new.true

pub returns-then-old-new-clause-grows : goal.returns-then-old-new-clause-grows
returns-then-old-new-clause-grows c = extends-itself c.is_sound.ensures.sound

pub loop-place-init : goal.loop-place-init
loop-place-init c = (extends-itself c.is_sound.ensures.sound, tt)

pub is_converted-requires-clause-old_left : goal.is_converted-requires-clause-old_left
is_converted-requires-clause-old_left c = kept-within c.loop-place.invariant.0 _ (literals-at c.args.bank.now c.args.old.now c.requires.old c.loop-place.place c.index-old-place.result c.loop-place-test.true c.index-old-place.is).0

pub is_converted-requires-clause-old_right : goal.is_converted-requires-clause-old_right
is_converted-requires-clause-old_right c = kept-within c.loop-place.invariant.0 _ (literals-at c.args.bank.now c.args.old.now c.requires.old c.loop-place.place c.index-old-place.result c.loop-place-test.true c.index-old-place.is).1

pub is_converted-requires-clause-new_left : goal.is_converted-requires-clause-new_left
is_converted-requires-clause-new_left c = kept-within c.loop-place.invariant.0 _ (literals-at c.args.bank.now c.args.new.now c.requires.new c.loop-place.place c.index-new-place.result (let t = c.loop-place-test.true in let e = c.if-old-new.false in omega arith) c.index-new-place.is).0

pub is_converted-requires-clause-new_right : goal.is_converted-requires-clause-new_right
is_converted-requires-clause-new_right c = kept-within c.loop-place.invariant.0 _ (literals-at c.args.bank.now c.args.new.now c.requires.new c.loop-place.place c.index-new-place.result (let t = c.loop-place-test.true in let e = c.if-old-new.false in omega arith) c.index-new-place.is).1

pub returns-in_err-same-clause-grows : goal.returns-in_err-same-clause-grows
returns-in_err-same-clause-grows c = extends-trans c.loop-place.invariant.0 c.is_converted.ensures.grows

pub returns-then-not-same-clause-value : goal.returns-then-not-same-clause-value
returns-then-not-same-clause-value c =
    let o = literals-at c.args.bank.now c.args.old.now c.requires.old c.loop-place.place c.index-old-place.result c.loop-place-test.true c.index-old-place.is in
    let n = literals-at c.args.bank.now c.args.new.now c.requires.new c.loop-place.place c.index-new-place.result (let t = c.loop-place-test.true in let e = c.if-old-new.false in omega arith) c.index-new-place.is in
    one-unconverted c.args.bank.now c.args.old.now c.args.new.now c.loop-place.place c.index-old-place.result c.index-new-place.result c.in_ok-same.same c.loop-place-test.true c.if-old-new.false c.index-old-place.is c.index-new-place.is
    (converted-there c.loop-place.invariant.0 c.index-old-place.result c.index-new-place.result o.0 o.1 n.0 n.1 c.in_ok-same.same c.in_ok-same.ensures.value) c.if-not-same.true

pub returns-then-not-same-clause-grows : goal.returns-then-not-same-clause-grows
returns-then-not-same-clause-grows c = extends-trans c.loop-place.invariant.0 c.is_converted.ensures.grows

pub loop-place-preserved : goal.loop-place-preserved
loop-place-preserved c =
    let o = literals-at c.args.bank.now c.args.old.now c.requires.old c.loop-place.place c.index-old-place.result c.loop-place-test.true c.index-old-place.is in
    let n = literals-at c.args.bank.now c.args.new.now c.requires.new c.loop-place.place c.index-new-place.result (let t = c.loop-place-test.true in let e = c.if-old-new.false in omega arith) c.index-new-place.is in
    let d = converted-there c.loop-place.invariant.0 c.index-old-place.result c.index-new-place.result o.0 o.1 n.0 n.1 c.in_ok-same.same c.in_ok-same.ensures.value in (
      extends-trans c.loop-place.invariant.0 c.is_converted.ensures.grows,
      pairs-next _ c.args.old.now c.args.new.now c.loop-place.place c.index-old-place.result c.index-new-place.result c.loop-place.invariant.1 c.loop-place-test.true (let t = c.loop-place-test.true in let e = c.if-old-new.false in omega arith) c.index-old-place.is c.index-new-place.is (d.0 c.if-not-same.false),
    )

pub returns-clause-value : goal.returns-clause-value
returns-clause-value c = all-converted c.args.bank.now c.args.old.now c.args.new.now c.loop-place.place c.loop-place-test.false c.if-old-new.false c.loop-place.invariant.1
