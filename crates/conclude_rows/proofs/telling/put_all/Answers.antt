use Rattle.conclude_rows.proofs.Ready.{found-at}
use Rattle.conclude_rows.proofs.telling.put_all.Goals as goal

pub put-requires : goal.put-requires
put-requires g c = found-at c.args.bank.now c.args.conclusions.now c.requires c.loop-found.found-index c.found-item.result c.loop-found-test.true c.found-item.is
