use Rattle.fo_super.proofs.Answering.{refuted}
use Rattle.fo_super.proofs.SameTerms.{counts-same, counts-other}
use Rattle.fo_super.proofs.literals.if_same.Goals as goal

pub returns-then-is_same_term : goal.returns-then-is_same_term
returns-then-is_same_term c = counts-same c.args.term.now c.args.side.now c.args.much (c.is_same_term.ensures.0 c.if-is_same_term.true)

pub returns : goal.returns
returns c = counts-other c.args.term.now c.args.side.now c.args.much (refuted c.is_same_term.result c.is_same_term.ensures c.if-is_same_term.false)
