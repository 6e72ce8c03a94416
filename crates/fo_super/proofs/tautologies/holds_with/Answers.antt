use Rattle.fo_super.proofs.Answering.{yes, refuted}
use Rattle.fo_super.proofs.Opposing.{holds-reflexive, holds-opposed}
use Rattle.fo_super.proofs.tautologies.holds_with.Goals as goal

pub returns-then-is_reflexive : goal.returns-then-is_reflexive
returns-then-is_reflexive c =
    let h = c.is_reflexive.ensures.0 c.if-is_reflexive.true in
    yes (holds-reflexive c.args.literal.now c.args.others.now h.0 h.1)

pub returns : goal.returns
returns c =
    holds-opposed c.args.literal.now c.args.others.now c.is_opposed.result
    (refuted c.is_reflexive.result c.is_reflexive.ensures c.if-is_reflexive.false) c.is_opposed.ensures
