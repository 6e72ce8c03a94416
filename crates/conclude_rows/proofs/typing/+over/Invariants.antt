use Rattle.std.proofs.Common.{◌+◌, ◌*◌}
use Rattle.leo_terms.proofs.Measures.{argument_size}
use Rattle.conclude_rows.proofs.typing.+over.Given as goal

abbrev pub decreases-is_over : goal.decreases-is_over
decreases-is_over l = 3 * l.t + 1

abbrev pub decreases-is_argument_over : goal.decreases-is_argument_over
decreases-is_argument_over l = argument_size l.x
