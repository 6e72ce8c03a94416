use Rattle.leo_terms.proofs.CallerLemmas.{extends-itself}
use Rattle.leo_kernel.proofs.FormRules.{variables-differ}
use Rattle.leo_kernel.proofs.forms.converts.Goals as goal

pub returns-then-not-same_types-clause-value : goal.returns-then-not-same_types-clause-value
returns-then-not-same_types-clause-value c = variables-differ c.args.bank.now c.is_sound.ensures.sound c.args.parent.now c.args.step.now _ c.requires.parent c.requires.step c.same_types.result (rw (c.as_slice.ensures, c.as_slice-2.ensures) at c.same_types.ensures) c.if-not-same_types.true

pub returns-then-not-same_types-clause-grows : goal.returns-then-not-same_types-clause-grows
returns-then-not-same_types-clause-grows c = extends-itself c.is_sound.ensures.sound
