use Rattle.leo_kernel.proofs.PlainRules.{never-of_unequal, never-of_true, never-of_false, never-not}
use Rattle.leo_kernel.proofs.plain.never_holds.Goals as goal

pub returns-then-not-lit : goal.returns-then-not-lit
returns-then-not-lit c = never-of_unequal c.args.bank.now c.is_sound.ensures.sound c.args.truths.now c.requires.truths c.args.lit c.requires.left c.requires.right c.if-not-lit.true c.eq.result c.eq.ensures

pub returns-then-eq : goal.returns-then-eq
returns-then-eq c = never-of_true c.args.bank.now c.is_sound.ensures.sound c.args.truths.now c.requires.truths c.args.lit c.requires.left c.requires.right c.if-not-lit.false c.eq-2.result c.eq-then-eq.result c.eq-2.ensures c.if-eq.true c.eq-then-eq.ensures

pub returns-then-eq-2 : goal.returns-then-eq-2
returns-then-eq-2 c = never-of_false c.args.bank.now c.is_sound.ensures.sound c.args.truths.now c.requires.truths c.args.lit c.requires.left c.requires.right c.if-not-lit.false c.eq-3.result c.eq-then-eq-2.result c.eq-3.ensures c.if-eq-2.true c.eq-then-eq-2.ensures

pub returns : goal.returns
returns c = never-not c.args.bank.now c.is_sound.ensures.sound c.args.truths.now c.requires.truths c.args.lit c.requires.left c.requires.right c.if-not-lit.false c.eq-2.result c.eq-3.result c.eq-2.ensures c.if-eq.false c.eq-3.ensures c.if-eq-2.false
