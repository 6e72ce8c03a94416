use Rattle.fo_text.specs.declared.problem.FoLit.{FoLit}
use Rattle.fo_super.specs.Tautologies.{HoldsWith}
use Rattle.fo_super.proofs.Answering.{get-index, none-next, no, yes, refuted}
use Rattle.fo_super.proofs.Opposing.{tautology-at, tautology-nowhere}
use Rattle.fo_super.proofs.tautologies.is_tautology.Goals as goal

pub returns-then-holds_with : goal.returns-then-holds_with
returns-then-holds_with c = yes (tautology-at c.args.literals.now c.loop-literal.literal-index c.literal-item.result (get-index c.args.literals.now c.loop-literal.literal-index c.literal-item.result c.loop-literal-test.true c.literal-item.is) (c.holds_with.ensures.0 c.if-holds_with.true))

pub loop-literal-preserved : goal.loop-literal-preserved
loop-literal-preserved c =
    none-next (λ (k : FoLit). HoldsWith k c.args.literals.now) c.args.literals.now c.loop-literal.literal-index c.literal-item.result c.loop-literal.invariant (get-index c.args.literals.now c.loop-literal.literal-index c.literal-item.result c.loop-literal-test.true c.literal-item.is)
    (refuted c.holds_with.result c.holds_with.ensures c.if-holds_with.false)

pub returns : goal.returns
returns c = no (tautology-nowhere c.args.literals.now c.loop-literal.literal-index c.loop-literal.invariant c.loop-literal-test.false)
