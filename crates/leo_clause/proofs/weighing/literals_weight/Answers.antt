use Rattle.std.proofs.Common.{◌-◌, ◌^◌}
use Rattle.leo_clause.proofs.Meeting.{literals-at}
use Rattle.leo_clause.proofs.Sums.{weight-next}
use Rattle.leo_clause.proofs.weighing.literals_weight.Goals as goal

pub weight-left-requires : goal.weight-left-requires
weight-left-requires c = (literals-at c.args.bank.now c.args.lits.now c.requires c.loop-lit.lit-index c.lit-item.result c.loop-lit-test.true c.lit-item.is).0

pub weight-right-requires : goal.weight-right-requires
weight-right-requires c = (literals-at c.args.bank.now c.args.lits.now c.requires c.loop-lit.lit-index c.lit-item.result c.loop-lit-test.true c.lit-item.is).1

pub loop-lit-preserved : goal.loop-lit-preserved
loop-lit-preserved c = rw (c.saturating_add-sum.ensures, c.saturating_add.ensures, c.weight-left.ensures.weight, c.weight-right.ensures.weight) (weight-next c.args.bank.now c.args.lits.now c.loop-lit.lit-index c.lit-item.result c.loop-lit.sum (2 ^ 64 - 1) c.loop-lit-test.true c.lit-item.is c.loop-lit.invariant)
