use Rattle.clausify_rows.proofs.Answering.{leaf-at}
use Rattle.clausify_rows.proofs.telling.put_leaves.Goals as goal

pub put_leaf-requires : goal.put_leaf-requires
put_leaf-requires g c = leaf-at c.args.bank.now c.args.leaves.now c.requires c.loop-leaf.leaf-index c.leaf-item.result c.loop-leaf-test.true c.leaf-item.is
