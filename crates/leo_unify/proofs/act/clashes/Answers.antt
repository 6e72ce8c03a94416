use Rattle.std.proofs.Common.{◌∙◌, sym}
use Rattle.leo_unify.proofs.ActSteps.{clash-decides}
use Rattle.leo_unify.proofs.act.clashes.Goals as goal

pub returns : goal.returns
returns c = clash-decides c.args.bank.now c.is_sound.ensures.sound c.args.l c.requires.left _ _ (sym c.is_flex.ensures ∙ c.if-is_flex.false) (sym c.is_flex-2.ensures ∙ c.if-is_flex-2.false) c.ne.result (rw (c.type_of.ensures.number, c.truth.ensures) at c.ne.ensures)
