use Rattle.fo_super.proofs.Answering.{refuted}
use Rattle.fo_super.proofs.Multisets.{covered-right}
use Rattle.fo_super.proofs.literals.is_covered.Goals as goal

pub returns : goal.returns
returns c =
    covered-right c.args.literal.now c.args.other.now c.args.term.now c.is_covered_by-2.result
    (refuted c.is_covered_by.result c.is_covered_by.ensures c.if-is_covered_by.false) c.is_covered_by-2.ensures
