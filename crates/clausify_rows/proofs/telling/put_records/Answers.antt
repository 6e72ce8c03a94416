use Rattle.clausify_rows.proofs.Answering.{step-at}
use Rattle.clausify_rows.proofs.telling.put_records.Goals as goal

pub put_record-requires : goal.put_record-requires
put_record-requires g c = step-at c.args.bank.now c.args.records.now c.requires c.loop-step.step-index c.step-item.result c.loop-step-test.true c.step-item.is
