use Rattle.leo_kernel.proofs.FormRules.{variables-differ}
use Rattle.leo_kernel.proofs.parts.arranges.Goals as goal

pub returns-then-not-same_types : goal.returns-then-not-same_types
returns-then-not-same_types c = variables-differ c.args.bank.now c.is_sound.ensures.sound c.args.parent.now c.args.step.now _ c.requires.parent c.requires.step c.same_types.result (rw (c.as_slice.ensures, c.as_slice-2.ensures) at c.same_types.ensures) c.if-not-same_types.true
