use Rattle.leo_terms.proofs.PublicWords.{is_bank, typed_view}
use Rattle.leo_terms.proofs.bank.Bank.view.Goals as goal

pub returns-clause-sound : goal.returns-clause-sound
returns-clause-sound c = is_bank c.args.self.now c.top.ensures.sound

pub returns-clause-typed : goal.returns-clause-typed
returns-clause-typed c = typed_view c.args.self.now c.args.t c.top.result _ c.top.ensures.typed
