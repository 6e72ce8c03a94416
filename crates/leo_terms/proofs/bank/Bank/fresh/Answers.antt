use Rattle.std.proofs.lemmas.Result.{IfOk-weaker}
use Rattle.leo_terms.proofs.CallerLemmas.{symbol-added}
use Rattle.leo_terms.proofs.PublicWords.{extends}
use Rattle.leo_terms.proofs.bank.Bank.fresh.Goals as goal

pub returns-clause-grows : goal.returns-clause-grows
returns-clause-grows c = extends c.args.self.now c.unnamed_symbol.new.self c.unnamed_symbol.ensures.grows

pub returns-clause-within : goal.returns-clause-within
returns-clause-within c = IfOk-weaker c.unnamed_symbol.result _ _ (λ s a. (symbol-added a).0) c.unnamed_symbol.ensures.made

pub returns-clause-typed : goal.returns-clause-typed
returns-clause-typed c = IfOk-weaker c.unnamed_symbol.result _ _ (λ s a. (symbol-added a).1) c.unnamed_symbol.ensures.made
