use Rattle.leo_unify.proofs.Unique.{finds-unique}
use Rattle.leo_unify.proofs.laws.solutions_are_unique.Goals as goal

pub returns : goal.returns
returns c = finds-unique
