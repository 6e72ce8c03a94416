use Rattle.unify_rows.proofs.Pairs.{sides-next, sides-whole}
use Rattle.unify_rows.proofs.asking.pairs_of.Goals as goal

pub loop-lit-preserved : goal.loop-lit-preserved
loop-lit-preserved c = rw c.in_ok-push.ensures.ok (sides-next c.args.lits.now c.loop-lit.lit-index c.lit-item.result c.loop-lit.pairs c.loop-lit.invariant c.loop-lit-test.true c.lit-item.is)

pub returns : goal.returns
returns c = sides-whole c.args.lits.now c.loop-lit.lit-index c.loop-lit.pairs c.loop-lit.invariant c.loop-lit-test.false
