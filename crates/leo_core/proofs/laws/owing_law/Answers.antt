use Rattle.leo_core.proofs.Runs.{one_is_owed}
use Rattle.leo_core.proofs.laws.owing_law.Goals as goal

pub returns : goal.returns
returns c = one_is_owed
