use Rattle.std.proofs.Common.{◌+◌, ◌*◌}
use Rattle.leo_terms.proofs.Measures.{argument_size}
use Rattle.leo_unify.proofs.cover.+rebind.Given as goal

abbrev pub decreases-rebound : goal.decreases-rebound
decreases-rebound l = 3 * l.t + 2

abbrev pub decreases-rebound_argument : goal.decreases-rebound_argument
decreases-rebound_argument l = argument_size l.x
