use Rattle.leo_terms.proofs.PublicWords.{is_bank}
use Rattle.leo_terms.proofs.bank.Bank.is_sound.Goals as goal

pub returns : goal.returns
returns c = record { sound = is_bank c.args.self.now c.soundness.ensures.sound }
