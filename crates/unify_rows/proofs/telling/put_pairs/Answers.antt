use Rattle.unify_rows.proofs.Pairs.{pair-at}
use Rattle.unify_rows.proofs.telling.put_pairs.Goals as goal

pub put_term-requires : goal.put_term-requires
put_term-requires g c = (pair-at c.args.bank.now c.args.pairs.now c.requires c.loop-pair.pair-index c.pair-item.result c.loop-pair-test.true c.pair-item.is).0

pub put_term-requires-in-loop-pair : goal.put_term-requires-in-loop-pair
put_term-requires-in-loop-pair g c = (pair-at c.args.bank.now c.args.pairs.now c.requires c.loop-pair.pair-index c.pair-item.result c.loop-pair-test.true c.pair-item.is).1
