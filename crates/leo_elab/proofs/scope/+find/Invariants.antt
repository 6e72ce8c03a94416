use Rattle.std.proofs.Common.{length}
use Rattle.leo_elab.proofs.scope.+find.Given as goal

abbrev pub decreases-find : goal.decreases-find
decreases-find l = length l.scope.now
