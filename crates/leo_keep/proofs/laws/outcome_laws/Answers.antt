use Rattle.leo_keep.proofs.Unique.{unique}
use Rattle.leo_keep.proofs.laws.outcome_laws.Goals as goal

pub returns : goal.returns
returns c = unique
