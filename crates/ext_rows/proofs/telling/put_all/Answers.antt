use Rattle.ext_rows.proofs.Ready.{due-at}
use Rattle.ext_rows.proofs.telling.put_all.Goals as goal

pub put-requires : goal.put-requires
put-requires g c = due-at c.args.bank.now c.args.dues.now c.requires c.loop-due.due-index c.due-item.result c.loop-due-test.true c.due-item.is
