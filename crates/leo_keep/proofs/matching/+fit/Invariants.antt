use Rattle.std.proofs.Common.{◌+◌, ◌*◌}
use Rattle.std.specs.Prelude.{max}
use Rattle.leo_keep.proofs.Measures.{argument_measure}
use Rattle.leo_keep.proofs.matching.+fit.Given as goal

abbrev pub decreases-fit : goal.decreases-fit
decreases-fit l = 4 * l.pattern + 3

abbrev pub decreases-fit_parts : goal.decreases-fit_parts
decreases-fit_parts l = 4 * l.pattern + 2

abbrev pub decreases-fit_app : goal.decreases-fit_app
decreases-fit_app l = 4 * max l.f l.a + 4

abbrev pub decreases-fit_lam : goal.decreases-fit_lam
decreases-fit_lam l = 4 * l.body + 4

abbrev pub decreases-fit_constant : goal.decreases-fit_constant
decreases-fit_constant l = max (argument_measure l.pattern.now.first) (argument_measure l.pattern.now.second) + 1

abbrev pub decreases-fit_argument : goal.decreases-fit_argument
decreases-fit_argument l = argument_measure l.x
