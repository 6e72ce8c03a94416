use Rattle.fo_super.proofs.Answering.{refuted}
use Rattle.fo_super.proofs.Never.{giver-passed}
use Rattle.fo_super.proofs.candidates.list_from_side.Goals as goal

pub returns-then-not-is_not_below : goal.returns-then-not-is_not_below
returns-then-not-is_not_below c = λ clauses at e.
    giver-passed c.order_laws.ensures.stable clauses c.args.from.clause c.args.from.literal c.args.from.side c.args.equation.now at
    (refuted c.is_not_below.result (rw (c.near.ensures, c.far.ensures) at c.is_not_below.ensures) c.if-not-is_not_below.true) c.args.into c.args.receiver.now.lits c.args.out.now
