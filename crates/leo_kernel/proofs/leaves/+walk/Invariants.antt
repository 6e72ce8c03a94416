use Rattle.std.proofs.Common.{◌+◌, ◌*◌}
use Rattle.leo_terms.proofs.Measures.{argument_size}
use Rattle.leo_kernel.proofs.leaves.+walk.Given as goal

abbrev pub decreases-walk : goal.decreases-walk
decreases-walk l = 3 * l.t + 2

abbrev pub decreases-walk_parts : goal.decreases-walk_parts
decreases-walk_parts l = 3 * l.t + 1

abbrev pub decreases-walk_argument : goal.decreases-walk_argument
decreases-walk_argument l = argument_size l.x
