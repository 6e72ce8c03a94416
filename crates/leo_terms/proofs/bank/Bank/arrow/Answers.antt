use Rattle.std.proofs.lemmas.Option.{slice_get_within}
use Rattle.std.proofs.lemmas.Result.{IfOk-weaker}
use Rattle.leo_terms.proofs.PublicWords.{extends, if_added}
use Rattle.leo_terms.proofs.bank.Bank.arrow.Goals as goal

pub returns-clause-grows : goal.returns-clause-grows
returns-clause-grows c = extends c.args.self.now c.type_numbered.new.self c.type_numbered.ensures.grows

pub returns-clause-added : goal.returns-clause-added
returns-clause-added c = if_added c.type_numbered.result c.args.self.now.types c.type_numbered.new.self.types _ c.type_numbered.ensures.added

pub returns-clause-within : goal.returns-clause-within
returns-clause-within c = IfOk-weaker c.type_numbered.result _ _ (λ i a. slice_get_within _ i _ a.stored) c.type_numbered.ensures.added
