use Rattle.leo_clause.proofs.Meeting.{literals-at, order-next}
use Rattle.leo_clause.proofs.arranging.order_of.Goals as goal

pub meet-requires-clause-within : goal.meet-requires-clause-within
meet-requires-clause-within c = (literals-at c.args.bank.now c.args.lits.now c.requires c.loop-lit.lit-index c.lit-item.result c.loop-lit-test.true c.lit-item.is).0

pub meet-requires-in-loop-lit-clause-within : goal.meet-requires-in-loop-lit-clause-within
meet-requires-in-loop-lit-clause-within c = (literals-at c.args.bank.now c.args.lits.now c.requires c.loop-lit.lit-index c.lit-item.result c.loop-lit-test.true c.lit-item.is).1

pub loop-lit-preserved : goal.loop-lit-preserved
loop-lit-preserved c =
    let n = order-next c.args.bank.now c.args.lits.now c.loop-lit.lit-index c.lit-item.result c.loop-lit.order.keys c.meet.new.order.keys c.meet-in-loop-lit.new.order.keys c.loop-lit-test.true c.lit-item.is c.loop-lit.invariant.0 c.in_ok-meet.ensures.order c.in_ok-meet-2.ensures.order in
    (n, c.in_ok-meet-2.ensures.met)
