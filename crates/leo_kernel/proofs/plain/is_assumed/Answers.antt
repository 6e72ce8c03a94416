use Rattle.std.proofs.Common.{refl}
use Rattle.leo_kernel.proofs.PlainRules.{one-literal}
use Rattle.leo_kernel.proofs.plain.is_assumed.Goals as goal

pub returns : goal.returns
returns c = one-literal c.args.bank.now c.is_sound.ensures.sound c.args.step.now c.valued-lit.result _ c.requires.step (c.if-not-is_empty.ensures.0 refl) c.valued-lit.ensures.left c.valued-lit.ensures.right c.valued-lit.ensures.reads c.same_lits.result (rw c.as_slice.ensures at c.same_lits.ensures)
