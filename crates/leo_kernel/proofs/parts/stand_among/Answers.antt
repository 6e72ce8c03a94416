use Rattle.std.proofs.Common.{◌∙◌, sym}
use Rattle.leo_kernel.proofs.Lists.{each-next}
use Rattle.leo_kernel.proofs.TypedLits.{literals-at}
use Rattle.leo_kernel.proofs.Among.{any-same, all-among, one-missing}
use Rattle.leo_kernel.proofs.parts.stand_among.Goals as goal

pub returns-then-not-stands_among : goal.returns-then-not-stands_among
returns-then-not-stands_among c =
    let w = literals-at c.args.bank.now c.args.lits.now c.requires.lits c.loop-lit.lit-index c.lit-item.result c.loop-lit-test.true c.lit-item.is in
    one-missing c.args.bank.now c.is_sound.ensures.sound c.args.lits.now c.args.others.now c.loop-lit.lit-index c.lit-item.result c.loop-lit-test.true c.lit-item.is
    (sym (any-same c.args.bank.now c.is_sound.ensures.sound c.lit-item.result w.0 w.1 c.args.others.now c.requires.others) ∙ sym c.stands_among.ensures ∙ c.if-not-stands_among.true)

pub loop-lit-preserved : goal.loop-lit-preserved
loop-lit-preserved c =
    let w = literals-at c.args.bank.now c.args.lits.now c.requires.lits c.loop-lit.lit-index c.lit-item.result c.loop-lit-test.true c.lit-item.is in
    each-next _ c.args.lits.now c.loop-lit.lit-index c.lit-item.result c.loop-lit.invariant c.loop-lit-test.true c.lit-item.is
    (sym (any-same c.args.bank.now c.is_sound.ensures.sound c.lit-item.result w.0 w.1 c.args.others.now c.requires.others) ∙ sym c.stands_among.ensures ∙ c.if-not-stands_among.false)

pub returns : goal.returns
returns c = all-among c.args.bank.now c.is_sound.ensures.sound c.args.lits.now c.args.others.now c.loop-lit.lit-index c.loop-lit-test.false c.loop-lit.invariant
