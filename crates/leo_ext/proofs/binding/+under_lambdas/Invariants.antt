use Rattle.std.proofs.Common.{length}
use Rattle.leo_ext.proofs.binding.+under_lambdas.Given as goal

abbrev pub decreases-under_lambdas : goal.decreases-under_lambdas
decreases-under_lambdas l = length l.types.now
