use Rattle.clausify_rows.proofs.Answering.{term-at}
use Rattle.clausify_rows.proofs.telling.put_terms.Goals as goal

pub put_term-requires : goal.put_term-requires
put_term-requires g c = term-at c.args.bank.now c.args.terms.now c.requires c.loop-term.term-index c.term-item.result c.loop-term-test.true c.term-item.is
