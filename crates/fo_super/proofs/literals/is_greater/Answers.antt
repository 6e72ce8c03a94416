use Rattle.fo_super.proofs.Answering.{no, refuted}
use Rattle.fo_super.proofs.Multisets.{greater-decides}
use Rattle.fo_super.proofs.literals.is_greater.Goals as goal

pub returns-then-not-is_covered_where_more : goal.returns-then-not-is_covered_where_more
returns-then-not-is_covered_where_more c =
    no (λ g. refuted c.is_covered_where_more.result c.is_covered_where_more.ensures c.if-not-is_covered_where_more.true (g.covered c.args.other.now.left))

pub returns : goal.returns
returns c =
    greater-decides c.args.literal.now c.args.other.now c.is_covered_where_more-2.result
    (c.differs.ensures.0 c.if-not-differs.false)
    (c.is_covered_where_more.ensures.0 c.if-not-is_covered_where_more.false) c.is_covered_where_more-2.ensures
