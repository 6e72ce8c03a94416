use Rattle.leo_kernel.proofs.TypeRules.{same_type-decides}
use Rattle.leo_kernel.proofs.types.same_type.Goals as goal

pub returns : goal.returns
returns c = same_type-decides c.args.bank.now c.type_of-first.ensures.sound c.args.s c.args.t c.type_of-first.result c.type_of-second.result c.requires.first c.requires.second c.type_of-first.ensures.number c.type_of-second.ensures.number c.eq.result c.eq.ensures
