use Rattle.leo_ext.proofs.Casing.{truths-test}
use Rattle.leo_ext.proofs.bool_ext.is_equation_of_truths.Goals as goal

pub returns : goal.returns
returns c = truths-test c.args.bank.now c.is_sound.ensures.sound c.args.lit.now c.requires.left c.type_of-ty.result c.truth-truth.result c.type_of-ty.ensures.number c.truth-truth.ensures c.eq-of_truths.result c.is_formula-formula.result c.without.result c.eq-of_truths.ensures c.is_formula-formula.ensures c.without.ensures
