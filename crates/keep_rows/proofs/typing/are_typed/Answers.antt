use Rattle.keep_rows.proofs.Ready.{clause-at}
use Rattle.keep_rows.proofs.Overs.{clauses-next, from-on}
use Rattle.keep_rows.proofs.typing.are_typed.Goals as goal

pub is_typed-requires : goal.is_typed-requires
is_typed-requires c = clause-at c.args.bank.now c.args.clauses.now c.requires c.loop-clause.clause-index c.clause-item.result c.loop-clause-test.true c.clause-item.is

pub loop-clause-preserved : goal.loop-clause-preserved
loop-clause-preserved c =
    clauses-next c.args.bank.now c.args.clauses.now c.loop-clause.clause-index c.clause-item.result c.loop-clause.invariant c.loop-clause-test.true c.clause-item.is
    (from-on c.is_typed.result c.if-not-is_typed.false c.is_typed.ensures)
