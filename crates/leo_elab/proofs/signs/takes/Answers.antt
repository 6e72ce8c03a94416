use Rattle.std.proofs.Common.{◌∙◌, sym}
use Rattle.leo_elab.proofs.Standing.{takes-yes, takes-no, not-truth, same-true, same-false}
use Rattle.leo_elab.proofs.signs.takes.Goals as goal

pub returns-in_default : goal.returns-in_default
returns-in_default c = record { yes = λ e. takes-yes c.args.bank.now c.args.body c.args.binder (sym c.type_of.ensures.number ∙ same-true _ _ (sym c.eq.ensures ∙ e) ∙ c.truth.ensures); no = λ e. takes-no c.args.binder _ c.in_default.not-Lambda (not-truth c.args.body c.type_of.ensures.sound c.requires (λ k. same-false _ _ (sym c.eq.ensures ∙ e) (c.type_of.ensures.number ∙ k ∙ sym c.truth.ensures))) }
