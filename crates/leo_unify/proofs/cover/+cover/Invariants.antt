use Rattle.std.proofs.Common.{◌+◌, ◌*◌}
use Rattle.leo_terms.proofs.Measures.{argument_size}
use Rattle.leo_unify.proofs.cover.+cover.Given as goal

abbrev pub decreases-is_covered : goal.decreases-is_covered
decreases-is_covered l = 3 * l.t + 2

abbrev pub decreases-is_argument_covered : goal.decreases-is_argument_covered
decreases-is_argument_covered l = argument_size l.x
