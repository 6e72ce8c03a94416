use Rattle.leo_ext.proofs.Factoring.{alike-as}
use Rattle.leo_ext.proofs.factor.are_alike.Goals as goal

pub returns : goal.returns
returns c =
    alike-as c.args.bank.now c.is_sound.ensures.sound c.args.one.now c.args.other.now c.requires.one c.requires.other c.is_formula-first.result c.is_formula-second.result c.eq-one_value.result c.eq-one_type.result c.alike.result c.type_of-first_type.result c.type_of-second_type.result
    c.is_formula-first.ensures c.is_formula-second.ensures c.eq-one_value.ensures c.type_of-first_type.ensures.number c.type_of-second_type.ensures.number c.eq-one_type.ensures c.alike.ensures
