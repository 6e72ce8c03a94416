use Rattle.std.proofs.Common.{arith}
use Rattle.leo_terms.proofs.CallerLemmas.{extends-itself, extends-trans, are_terms-kept}
use Rattle.leo_clause.proofs.Meeting.{literals-at}
use Rattle.leo_clause.proofs.Renaming.{given-of, given-kept, renamed-none, renamed-next}
use Rattle.leo_ext.proofs.substituting.instance_lits.Goals as goal

pub loop-lit-init : goal.loop-lit-init
loop-lit-init c = (extends-itself c.is_sound.ensures.sound, renamed-none c.args.bank.now c.args.sigma.now c.args.lits.now c.new-made.result c.new-made.ensures)

pub instance_lit-requires-clause-left : goal.instance_lit-requires-clause-left
instance_lit-requires-clause-left c =
    let h = literals-at c.args.bank.now c.args.lits.now c.requires.literals c.loop-lit.lit-index c.lit-item.result c.loop-lit-test.true c.lit-item.is in
    let p = h.0 in
    let m = c.loop-lit.invariant.0.terms_more in
    omega arith

pub instance_lit-requires-clause-right : goal.instance_lit-requires-clause-right
instance_lit-requires-clause-right c =
    let h = literals-at c.args.bank.now c.args.lits.now c.requires.literals c.loop-lit.lit-index c.lit-item.result c.loop-lit-test.true c.lit-item.is in
    let p = h.1 in
    let m = c.loop-lit.invariant.0.terms_more in
    omega arith

pub instance_lit-requires-clause-terms : goal.instance_lit-requires-clause-terms
instance_lit-requires-clause-terms c = are_terms-kept c.loop-lit.invariant.0 c.args.sigma.now c.requires.terms

pub instance_lit-requires-clause-left_given : goal.instance_lit-requires-clause-left_given
instance_lit-requires-clause-left_given c =
    let h = literals-at c.args.bank.now c.args.lits.now c.requires.literals c.loop-lit.lit-index c.lit-item.result c.loop-lit-test.true c.lit-item.is in
    let g = given-of c.args.bank.now _ c.args.lits.now c.requires.given c.loop-lit.lit-index c.lit-item.result c.loop-lit-test.true c.lit-item.is in
    given-kept c.loop-lit.invariant.0 c.args.sigma.now c.requires.terms c.lit-item.result.left h.0 g.0

pub instance_lit-requires-clause-right_given : goal.instance_lit-requires-clause-right_given
instance_lit-requires-clause-right_given c =
    let h = literals-at c.args.bank.now c.args.lits.now c.requires.literals c.loop-lit.lit-index c.lit-item.result c.loop-lit-test.true c.lit-item.is in
    let g = given-of c.args.bank.now _ c.args.lits.now c.requires.given c.loop-lit.lit-index c.lit-item.result c.loop-lit-test.true c.lit-item.is in
    given-kept c.loop-lit.invariant.0 c.args.sigma.now c.requires.terms c.lit-item.result.right h.1 g.1

pub returns-in_err-lit-clause-grows : goal.returns-in_err-lit-clause-grows
returns-in_err-lit-clause-grows c = extends-trans c.loop-lit.invariant.0 c.instance_lit.ensures.grows

pub returns-in_err-push-clause-grows : goal.returns-in_err-push-clause-grows
returns-in_err-push-clause-grows c = extends-trans c.loop-lit.invariant.0 c.instance_lit.ensures.grows

pub loop-lit-preserved : goal.loop-lit-preserved
loop-lit-preserved c =
    let e = c.loop-lit.invariant.0 in
    let f = c.instance_lit.ensures.grows in
    let m = c.in_ok-lit.ensures in
    let n = renamed-next e f c.args.sigma.now c.args.lits.now c.loop-lit.made c.loop-lit.lit-index c.lit-item.result c.in_ok-lit.lit c.requires.terms c.requires.literals c.loop-lit.invariant.1 c.loop-lit-test.true c.lit-item.is m.value m.left_within m.right_within in
    (extends-trans e f, rw c.in_ok-push.ensures.ok n)
