use Rattle.leo_kernel.proofs.PlainRules.{dropped}
use Rattle.leo_kernel.proofs.plain.drops.Goals as goal

pub returns : goal.returns
returns c = dropped c.args.bank.now c.is_sound.ensures.sound c.args.parent.now c.args.place _ c.args.step.now c.requires.parent c.requires.step c.never_holds.result c.concludes.result c.never_holds.ensures c.if-not-never_holds.false c.concludes.ensures
