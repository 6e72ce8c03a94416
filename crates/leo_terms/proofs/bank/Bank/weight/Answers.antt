use Rattle.leo_terms.proofs.PublicWords.{is_bank}
use Rattle.leo_terms.proofs.bank.Bank.weight.Goals as goal

pub returns-clause-sound : goal.returns-clause-sound
returns-clause-sound c = is_bank c.args.self.now c.facts_at.ensures.sound
