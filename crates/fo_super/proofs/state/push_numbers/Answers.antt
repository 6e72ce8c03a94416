use Rattle.fo_super.proofs.Choosing.{numbers-next}
use Rattle.fo_super.proofs.state.push_numbers.Goals as goal

pub loop-number-preserved : goal.loop-number-preserved
loop-number-preserved c = numbers-next c.args.from c.loop-number.number c.args.numbers.now c.loop-number.numbers c.push.new.self c.loop-number.auto.number c.loop-number.invariant c.in_ok-push.ensures.ok
