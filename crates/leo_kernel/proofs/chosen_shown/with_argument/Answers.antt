use Rattle.leo_terms.proofs.CallerLemmas.{extends-itself}
use Rattle.leo_kernel.proofs.ChosenShowing.{extended-untyped}
use Rattle.leo_kernel.proofs.chosen_shown.with_argument.Goals as goal

pub returns-then-not-is_applicable-clause-value : goal.returns-then-not-is_applicable-clause-value
returns-then-not-is_applicable-clause-value c = extended-untyped c.args.bank.now c.is_applicable.ensures.sound c.args.f c.args.x c.requires.function c.requires.argument c.is_applicable.result c.is_applicable.ensures.typed c.if-not-is_applicable.true

pub returns-then-not-is_applicable-clause-grows : goal.returns-then-not-is_applicable-clause-grows
returns-then-not-is_applicable-clause-grows c = extends-itself c.is_applicable.ensures.sound
