use Rattle.std.proofs.Common.{◌+◌, ◌*◌}
use Rattle.leo_terms.proofs.Measures.{argument_size}
use Rattle.conclude_rows.proofs.writing.+write.Given as goal

abbrev pub decreases-put_term : goal.decreases-put_term
decreases-put_term l = 3 * l.t + 1

abbrev pub decreases-put_argument : goal.decreases-put_argument
decreases-put_argument l = argument_size l.x
