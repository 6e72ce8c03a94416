use Rattle.std.proofs.Common.{length}
use Rattle.leo_unify.proofs.bodies.+function_type.Given as goal

abbrev pub decreases-function_type : goal.decreases-function_type
decreases-function_type l = length l.outer.now
