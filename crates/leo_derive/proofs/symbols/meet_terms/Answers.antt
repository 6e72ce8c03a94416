use Rattle.leo_derive.proofs.Collecting.{terms_next}
use Rattle.leo_derive.proofs.symbols.meet_terms.Goals as goal

pub loop-t-preserved : goal.loop-t-preserved
loop-t-preserved c = (
  c.in_ok-meet.ensures.met,
  terms_next c.args.bank.now c.args.terms.now c.loop-t.t-index c.t-item.result c.loop-t.symbols.keys c.meet.new.symbols.keys _ c.loop-t-test.true c.t-item.is c.loop-t.invariant.1 c.in_ok-meet.ensures.symbols,
)
