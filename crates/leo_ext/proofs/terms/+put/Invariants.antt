use Rattle.std.proofs.Common.{◌+◌, ◌*◌}
use Rattle.leo_terms.proofs.Measures.{argument_size}
use Rattle.leo_ext.proofs.terms.+put.Given as goal

abbrev pub decreases-put_places : goal.decreases-put_places
decreases-put_places l = 3 * l.t + 2

abbrev pub decreases-put_arguments : goal.decreases-put_arguments
decreases-put_arguments l = 3 * l.t + 1

abbrev pub decreases-put_argument : goal.decreases-put_argument
decreases-put_argument l = argument_size l.x
