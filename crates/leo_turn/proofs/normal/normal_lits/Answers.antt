use Rattle.leo_terms.proofs.CallerLemmas.{extends-itself, extends-trans}
use Rattle.leo_clausify.proofs.Banks.{literals-at, literals-none, normals-next, within-grow}
use Rattle.leo_turn.proofs.normal.normal_lits.Goals as goal

pub loop-lit-init : goal.loop-lit-init
loop-lit-init c = (extends-itself c.is_sound.ensures.sound, rw c.new-normals.ensures (literals-none c.args.bank.now))

pub normal_lit-requires-clause-left : goal.normal_lit-requires-clause-left
normal_lit-requires-clause-left c = within-grow c.loop-lit.invariant.0 c.lit-item.result.left (literals-at c.args.bank.now c.args.lits.now c.requires c.loop-lit.lit-index c.lit-item.result c.loop-lit-test.true c.lit-item.is).0

pub normal_lit-requires-clause-right : goal.normal_lit-requires-clause-right
normal_lit-requires-clause-right c = within-grow c.loop-lit.invariant.0 c.lit-item.result.right (literals-at c.args.bank.now c.args.lits.now c.requires c.loop-lit.lit-index c.lit-item.result c.loop-lit-test.true c.lit-item.is).1

pub returns-in_err-lit-clause-grows : goal.returns-in_err-lit-clause-grows
returns-in_err-lit-clause-grows c = extends-trans c.loop-lit.invariant.0 c.normal_lit.ensures.grows

pub returns-in_err-push-clause-grows : goal.returns-in_err-push-clause-grows
returns-in_err-push-clause-grows c = extends-trans c.loop-lit.invariant.0 c.normal_lit.ensures.grows

pub loop-lit-preserved : goal.loop-lit-preserved
loop-lit-preserved c =
    let e = c.loop-lit.invariant.0 in
    let f = c.normal_lit.ensures.grows in
    (extends-trans e f, rw c.in_ok-push.ensures.ok (normals-next e f c.args.lits.now c.loop-lit.normals c.loop-lit.lit-index c.lit-item.result c.in_ok-lit.lit c.requires c.loop-lit.invariant.1 c.loop-lit-test.true c.lit-item.is c.in_ok-lit.ensures.made))
