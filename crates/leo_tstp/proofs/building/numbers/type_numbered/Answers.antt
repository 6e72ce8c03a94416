use Rattle.leo_tstp.proofs.Built.{type-there}
use Rattle.leo_tstp.proofs.building.numbers.type_numbered.Goals as goal

pub returns : goal.returns
returns c = λ d n. type-there d c.as_slice-types.result.now (rw c.as_slice-types.ensures.value n.types) c.args.place c.index-types-place.result c.if-place-types.false c.index-types-place.is
