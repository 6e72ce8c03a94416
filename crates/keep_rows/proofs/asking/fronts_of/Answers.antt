use Rattle.keep_rows.proofs.Ready.{clause-at, fronts-next}
use Rattle.keep_rows.proofs.asking.fronts_of.Goals as goal

pub front_of-requires : goal.front_of-requires
front_of-requires c = clause-at c.args.bank.now c.args.clauses.now c.requires c.loop-clause.clause-index c.clause-item.result c.loop-clause-test.true c.clause-item.is

pub loop-clause-preserved : goal.loop-clause-preserved
loop-clause-preserved c =
    rw c.in_ok-add.ensures.ok (fronts-next c.args.bank.now c.args.clauses.now c.loop-clause.clause-index c.clause-item.result c.loop-clause.fronts c.front_of.result c.loop-clause.invariant c.loop-clause-test.true c.clause-item.is c.front_of.ensures)
