use Rattle.fo_text.specs.declared.problem.FoLit.{FoLit}
use Rattle.fo_super.specs.Literals.{IsLiteralGreater}
use Rattle.fo_super.proofs.Answering.{get-index, none-next, none-all, yes, refuted}
use Rattle.fo_super.proofs.literals.is_maximal.Goals as goal

pub loop-other-preserved : goal.loop-other-preserved
loop-other-preserved c =
    none-next (λ (k : FoLit). IsLiteralGreater k c.args.literal.now) c.args.literals.now c.loop-other.other-index c.other-item.result c.loop-other.invariant
    (get-index c.args.literals.now c.loop-other.other-index c.other-item.result c.loop-other-test.true c.other-item.is)
    (refuted c.is_greater.result c.is_greater.ensures c.if-is_greater.false)

pub returns : goal.returns
returns c = yes (none-all (λ (k : FoLit). IsLiteralGreater k c.args.literal.now) c.args.literals.now c.loop-other.other-index c.loop-other.invariant c.loop-other-test.false)
