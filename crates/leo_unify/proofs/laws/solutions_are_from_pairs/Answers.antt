use Rattle.leo_unify.proofs.OriginLemmas.{solutions-from}
use Rattle.leo_unify.proofs.laws.solutions_are_from_pairs.Goals as goal

pub returns : goal.returns
returns c = solutions-from
