use Rattle.std.proofs.Common.{◌+◌, ◌*◌}
use Rattle.leo_terms.proofs.Measures.{argument_size}
use Rattle.leo_para.proofs.meeting.+look.Given as goal

abbrev pub decreases-meets_below : goal.decreases-meets_below
decreases-meets_below l = 3 * l.t + 1

abbrev pub decreases-meets_inside : goal.decreases-meets_inside
decreases-meets_inside l = 3 * l.t + 2

abbrev pub decreases-meets_argument : goal.decreases-meets_argument
decreases-meets_argument l = argument_size l.x
