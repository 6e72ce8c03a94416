use Rattle.leo_keep.proofs.Numbers.{no}
use Rattle.leo_keep.proofs.Opposing.{apart, denied, no-truth, truths, unopposing, same-lefts}
use Rattle.leo_keep.proofs.tautologies.opposes.Goals as goal

pub returns-then-not-lit : goal.returns-then-not-lit
returns-then-not-lit c = no (unopposing c.args.bank.now c.args.lit.now c.args.other.now c.if-not-lit.true)

pub returns-then-not-other : goal.returns-then-not-other
returns-then-not-other c =
    denied c.args.bank.now c.is_sound.ensures.sound c.args.lit.now c.args.other.now c.requires.left c.requires.right c.requires.other_left c.requires.other_right
    c.has_same_sides.result c.if-not-lit.false c.if-not-other.true c.has_same_sides.ensures

pub returns-then-ne : goal.returns-then-ne
returns-then-ne c =
    no (apart c.args.bank.now c.is_sound.ensures.sound c.args.lit.now c.args.other.now c.requires.left c.requires.other_left
    c.ne.result c.if-not-other.false c.ne.ensures c.if-ne.true)

pub returns-then-not-is_true : goal.returns-then-not-is_true
returns-then-not-is_true c =
    no (no-truth c.args.bank.now c.args.lit.now c.args.other.now c.is_true.result c.if-not-other.false c.is_true.ensures c.if-not-is_true.true)

pub returns : goal.returns
returns c =
    truths c.args.bank.now c.args.lit.now c.args.other.now c.is_true.result c.is_false.result c.if-not-lit.false c.if-not-other.false
    (same-lefts c.args.lit.now c.args.other.now c.ne.result c.ne.ensures c.if-ne.false) c.is_true.ensures c.if-not-is_true.false c.is_false.ensures
