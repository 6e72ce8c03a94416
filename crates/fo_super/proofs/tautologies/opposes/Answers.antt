use Rattle.fo_super.proofs.Answering.{no, refuted}
use Rattle.fo_super.proofs.Opposing.{apart, denied, no-truth, truths, unopposing}
use Rattle.fo_super.proofs.tautologies.opposes.Goals as goal

pub returns-then-not-literal : goal.returns-then-not-literal
returns-then-not-literal c = no (unopposing c.args.literal.now c.args.other.now c.if-not-literal.true)

pub returns-then-not-other : goal.returns-then-not-other
returns-then-not-other c = denied c.args.literal.now c.args.other.now c.has_same_sides.result c.if-not-literal.false c.if-not-other.true c.has_same_sides.ensures

pub returns-then-not-is_same_term : goal.returns-then-not-is_same_term
returns-then-not-is_same_term c =
    no (apart c.args.literal.now c.args.other.now c.if-not-other.false (refuted c.is_same_term.result c.is_same_term.ensures c.if-not-is_same_term.true))

pub returns-then-not-is_constant : goal.returns-then-not-is_constant
returns-then-not-is_constant c =
    no (no-truth c.args.literal.now c.args.other.now c.if-not-other.false (refuted c.is_constant.result c.is_constant.ensures c.if-not-is_constant.true))

pub returns : goal.returns
returns c =
    truths c.args.literal.now c.args.other.now c.is_constant-2.result c.if-not-literal.false c.if-not-other.false
    (c.is_same_term.ensures.0 c.if-not-is_same_term.false) (c.is_constant.ensures.0 c.if-not-is_constant.false) c.is_constant-2.ensures
