use Rattle.std.proofs.Common.{length}
use Rattle.leo_unify.proofs.bodies.+applied_to.Given as goal

abbrev pub decreases-applied_to : goal.decreases-applied_to
decreases-applied_to l = length l.arguments.now
