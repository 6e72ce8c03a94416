use Rattle.fo_super.proofs.Choosing.{partners-next}
use Rattle.fo_super.proofs.turning.partners.Goals as goal

pub loop-number-preserved : goal.loop-number-preserved
loop-number-preserved c = partners-next c.loop-number.number c.args.count c.loop-number.list c.pass.new.list c.loop-number.rest.now c.in_ok-rest.rest.now _ c.loop-number-test.true c.loop-number.invariant.0 c.in_ok-rest.ensures.others c.in_ok-rest.ensures.rising
