use Rattle.leo_clause.specs.declared.clause.Lit.{Lit}
use Rattle.leo_clause.specs.Trees.{literal_at}
use Rattle.leo_keep.specs.Tautologies.{Opposes}
use Rattle.leo_keep.proofs.Numbers.{get-index, none-next, no, yes, refuted}
use Rattle.leo_keep.proofs.Opposing.{literals-at, opposed-at, opposed-nowhere}
use Rattle.leo_keep.proofs.tautologies.is_opposed.Goals as goal

pub opposes-requires-clause-other_left : goal.opposes-requires-clause-other_left
opposes-requires-clause-other_left c = (literals-at c.args.bank.now c.args.others.now c.requires.others c.loop-other.other-index c.other-item.result (get-index c.args.others.now c.loop-other.other-index c.other-item.result c.loop-other-test.true c.other-item.is)).0

pub opposes-requires-clause-other_right : goal.opposes-requires-clause-other_right
opposes-requires-clause-other_right c = (literals-at c.args.bank.now c.args.others.now c.requires.others c.loop-other.other-index c.other-item.result (get-index c.args.others.now c.loop-other.other-index c.other-item.result c.loop-other-test.true c.other-item.is)).1

pub returns-then-opposes : goal.returns-then-opposes
returns-then-opposes c =
    yes (opposed-at c.args.bank.now c.args.lit.now c.args.others.now c.loop-other.other-index c.other-item.result
    (get-index c.args.others.now c.loop-other.other-index c.other-item.result c.loop-other-test.true c.other-item.is) (c.opposes.ensures.0 c.if-opposes.true))

pub loop-other-preserved : goal.loop-other-preserved
loop-other-preserved c =
    none-next (λ (k : Lit). Opposes (literal_at c.args.bank.now c.args.lit.now) (literal_at c.args.bank.now k)) c.args.others.now c.loop-other.other-index c.other-item.result c.loop-other.invariant
    (get-index c.args.others.now c.loop-other.other-index c.other-item.result c.loop-other-test.true c.other-item.is)
    (refuted c.opposes.result c.opposes.ensures c.if-opposes.false)

pub returns : goal.returns
returns c = no (opposed-nowhere c.args.bank.now c.args.lit.now c.args.others.now c.loop-other.other-index c.loop-other.invariant c.loop-other-test.false)
