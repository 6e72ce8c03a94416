use Rattle.fo_text.specs.declared.problem.FoLit.{FoLit}
use Rattle.fo_super.specs.Tautologies.{Opposes}
use Rattle.fo_super.proofs.Answering.{get-index, none-next, no, yes, refuted}
use Rattle.fo_super.proofs.Opposing.{opposed-at, opposed-nowhere}
use Rattle.fo_super.proofs.tautologies.is_opposed.Goals as goal

pub returns-then-opposes : goal.returns-then-opposes
returns-then-opposes c =
    yes (opposed-at c.args.literal.now c.args.others.now c.loop-other.other-index c.other-item.result
    (get-index c.args.others.now c.loop-other.other-index c.other-item.result c.loop-other-test.true c.other-item.is) (c.opposes.ensures.0 c.if-opposes.true))

pub loop-other-preserved : goal.loop-other-preserved
loop-other-preserved c =
    none-next (λ (k : FoLit). Opposes c.args.literal.now k) c.args.others.now c.loop-other.other-index c.other-item.result c.loop-other.invariant
    (get-index c.args.others.now c.loop-other.other-index c.other-item.result c.loop-other-test.true c.other-item.is)
    (refuted c.opposes.result c.opposes.ensures c.if-opposes.false)

pub returns : goal.returns
returns c = no (opposed-nowhere c.args.literal.now c.args.others.now c.loop-other.other-index c.loop-other.invariant c.loop-other-test.false)
