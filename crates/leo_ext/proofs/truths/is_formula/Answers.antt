use Rattle.leo_ext.proofs.Comparing.{first-formula, second-formula}
use Rattle.leo_ext.proofs.truths.is_formula.Goals as goal

pub returns-then-eq : goal.returns-then-eq
returns-then-eq c = first-formula c.args.bank.now c.is_sound.ensures.sound c.args.truths.now c.requires.truths c.args.lit.now c.requires.right c.eq.result c.eq.ensures c.if-eq.true

pub returns : goal.returns
returns c = second-formula c.args.bank.now c.is_sound.ensures.sound c.args.truths.now c.requires.truths c.args.lit.now c.requires.right c.eq.result c.eq-2.result c.eq.ensures c.if-eq.false c.eq-2.ensures
