use Rattle.std.proofs.Common.{◌+◌, ◌*◌}
use Rattle.leo_terms.proofs.Measures.{argument_size}
use Rattle.clausify_rows.proofs.telling.+put.Given as goal

abbrev pub decreases-put_term : goal.decreases-put_term
decreases-put_term g l = 3 * l.t + 1

abbrev pub decreases-put_argument : goal.decreases-put_argument
decreases-put_argument g l = argument_size l.x
