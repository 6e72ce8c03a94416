use Rattle.leo_derive.proofs.PrunedLaw.{pruned_law}
use Rattle.leo_derive.proofs.laws.pruning_laws.Goals as goal

pub returns : goal.returns
returns c = pruned_law
