use Rattle.conclude_rows.proofs.Ready.{term-at}
use Rattle.conclude_rows.proofs.writing.put_terms.Goals as goal

pub put_term-requires : goal.put_term-requires
put_term-requires c = term-at c.args.bank.now c.args.terms.now c.requires c.loop-t.t-index c.t-item.result c.loop-t-test.true c.t-item.is
