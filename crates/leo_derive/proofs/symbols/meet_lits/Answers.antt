use Rattle.leo_clause.proofs.Meeting.{literals-at}
use Rattle.leo_derive.proofs.Collecting.{literals_next}
use Rattle.leo_derive.proofs.symbols.meet_lits.Goals as goal

pub meet-requires-clause-within : goal.meet-requires-clause-within
meet-requires-clause-within c = (literals-at c.args.bank.now c.args.lits.now c.requires.lits c.loop-lit.lit-index c.lit-item.result c.loop-lit-test.true c.lit-item.is).0

pub meet-requires-in-loop-lit-clause-within : goal.meet-requires-in-loop-lit-clause-within
meet-requires-in-loop-lit-clause-within c = (literals-at c.args.bank.now c.args.lits.now c.requires.lits c.loop-lit.lit-index c.lit-item.result c.loop-lit-test.true c.lit-item.is).1

pub loop-lit-preserved : goal.loop-lit-preserved
loop-lit-preserved c = (
  c.in_ok-meet-2.ensures.met,
  literals_next c.args.bank.now c.args.lits.now c.loop-lit.lit-index c.lit-item.result c.loop-lit.symbols.keys c.meet.new.symbols.keys c.meet-in-loop-lit.new.symbols.keys _ c.loop-lit-test.true c.lit-item.is c.loop-lit.invariant.1 c.in_ok-meet.ensures.symbols c.in_ok-meet-2.ensures.symbols,
)
