use Rattle.leo_tstp.proofs.Writing.{types-at}
use Rattle.leo_tstp.proofs.clauses.write_further_variables.Goals as goal

pub write_declared-requires : goal.write_declared-requires
write_declared-requires c = types-at c.args.bank.now c.args.types.now c.requires c.loop-place.place c.index-types-place.result c.loop-place-test.true c.index-types-place.is
