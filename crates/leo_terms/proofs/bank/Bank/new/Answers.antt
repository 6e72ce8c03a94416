use Rattle.std.proofs.lemmas.Result.{IfOk-weaker}
use Rattle.leo_terms.proofs.PublicWords.{is_bank}
use Rattle.leo_terms.proofs.bank.Bank.new.Goals as goal

pub returns-clause-sound : goal.returns-clause-sound
returns-clause-sound c = IfOk-weaker c.empty.result _ _ (λ b h. is_bank b h.0) c.empty.ensures

pub returns-clause-start : goal.returns-clause-start
returns-clause-start c = IfOk-weaker c.empty.result _ _ (λ b h. h.1) c.empty.ensures
