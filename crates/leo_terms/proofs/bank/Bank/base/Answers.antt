use Rattle.std.proofs.lemmas.Option.{slice_get_within}
use Rattle.std.proofs.lemmas.Result.{IfOk-weaker}
use Rattle.leo_terms.proofs.PublicWords.{extends, if_added}
use Rattle.leo_terms.proofs.bank.Bank.base.Goals as goal

pub returns-clause-grows : goal.returns-clause-grows
returns-clause-grows c = extends c.args.self.now c.next_base.new.self c.next_base.ensures.grows

pub returns-clause-made : goal.returns-clause-made
returns-clause-made c = if_added c.next_base.result c.args.self.now.types c.next_base.new.self.types _ c.next_base.ensures.made

pub returns-clause-within : goal.returns-clause-within
returns-clause-within c = IfOk-weaker c.next_base.result _ _ (λ i a. slice_get_within _ i _ a.stored) c.next_base.ensures.made
