use Rattle.leo_tstp.proofs.Built.{symbol-there}
use Rattle.leo_tstp.proofs.building.numbers.symbol_numbered.Goals as goal

pub returns : goal.returns
returns c = λ d n. symbol-there d c.as_slice-symbols.result.now (rw c.as_slice-symbols.ensures.value n.symbols) c.args.place c.index-symbols-place.result c.if-place-symbols.false c.index-symbols-place.is
