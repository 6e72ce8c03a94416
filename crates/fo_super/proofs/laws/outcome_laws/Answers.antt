use Rattle.fo_super.proofs.Unique.{unique}
use Rattle.fo_super.proofs.laws.outcome_laws.Goals as goal

pub returns : goal.returns
returns c = unique
