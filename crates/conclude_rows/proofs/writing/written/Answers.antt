use Rattle.conclude_rows.proofs.Ready.{step-at}
use Rattle.conclude_rows.proofs.writing.written.Goals as goal

pub put_record-requires : goal.put_record-requires
put_record-requires c = step-at c.args.bank.now c.args.records.now c.requires c.loop-step.step-index c.step-item.result c.loop-step-test.true c.step-item.is
