use Rattle.leo_kernel.proofs.ChosenShowing.{arguments-differ}
use Rattle.leo_kernel.proofs.chosen_shown.common_argument.Goals as goal

pub returns-else-eq : goal.returns-else-eq
returns-else-eq c = arguments-differ c.args.bank.now c.is_sound.ensures.sound c.args.f c.args.s c.args.g c.args.t c.in-Some-argument_of.v c.in-Some.w c.in-Some-argument_of.ensures.0 c.in-Some.ensures.0 c.in-Some.ensures.1 c.in-Some-argument_of.ensures.1 c.eq.result c.eq.ensures c.if-eq.false
