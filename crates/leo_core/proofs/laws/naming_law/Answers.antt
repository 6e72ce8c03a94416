use Rattle.leo_core.proofs.Named.{lines-nameable}
use Rattle.leo_core.proofs.laws.naming_law.Goals as goal

pub returns : goal.returns
returns c = lines-nameable
