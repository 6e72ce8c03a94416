use Rattle.conclude_rows.proofs.Overs.{literal-within}
use Rattle.conclude_rows.proofs.writing.put_lits.Goals as goal

pub put_lit-requires-clause-left : goal.put_lit-requires-clause-left
put_lit-requires-clause-left c = (literal-within c.args.bank.now c.args.lits.now c.requires c.loop-lit.lit-index c.lit-item.result c.loop-lit-test.true c.lit-item.is).0

pub put_lit-requires-clause-right : goal.put_lit-requires-clause-right
put_lit-requires-clause-right c = (literal-within c.args.bank.now c.args.lits.now c.requires c.loop-lit.lit-index c.lit-item.result c.loop-lit-test.true c.lit-item.is).1
