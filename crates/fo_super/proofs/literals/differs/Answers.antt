use Rattle.fo_super.proofs.Answering.{yes, refuted}
use Rattle.fo_super.proofs.Multisets.{differ-nowhere}
use Rattle.fo_super.proofs.literals.differs.Goals as goal

pub returns-then-differs_at : goal.returns-then-differs_at
returns-then-differs_at c = yes (c.args.literal.now.left, c.differs_at.ensures.0 c.if-differs_at.true)

pub returns-then-differs_at-2 : goal.returns-then-differs_at-2
returns-then-differs_at-2 c = yes (c.args.literal.now.right, c.differs_at-2.ensures.0 c.if-differs_at-2.true)

pub returns-then-differs_at-3 : goal.returns-then-differs_at-3
returns-then-differs_at-3 c = yes (c.args.other.now.left, c.differs_at-3.ensures.0 c.if-differs_at-3.true)

pub returns : goal.returns
returns c =
    differ-nowhere c.args.literal.now c.args.other.now c.differs_at-4.result
    (refuted c.differs_at.result c.differs_at.ensures c.if-differs_at.false)
    (refuted c.differs_at-2.result c.differs_at-2.ensures c.if-differs_at-2.false)
    (refuted c.differs_at-3.result c.differs_at-3.ensures c.if-differs_at-3.false) c.differs_at-4.ensures
