use Rattle.leo_tstp.proofs.Built.{type-there}
use Rattle.leo_tstp.proofs.building.numbers.base_numbered.Goals as goal

pub returns : goal.returns
returns c = λ d n. type-there d c.as_slice-bases.result.now (rw c.as_slice-bases.ensures.value n.bases) c.args.place c.index-bases-place.result c.if-place-bases.false c.index-bases-place.is
