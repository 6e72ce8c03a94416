use Rattle.std.proofs.Common.{◌+◌, ◌*◌}
use Rattle.leo_terms.proofs.Measures.{argument_size}
use Rattle.leo_derive.proofs.symbols.+meet.Given as goal

abbrev pub decreases-meet : goal.decreases-meet
decreases-meet l = 3 * l.t + 2

abbrev pub decreases-meet_parts : goal.decreases-meet_parts
decreases-meet_parts l = 3 * l.t + 1

abbrev pub decreases-meet_argument : goal.decreases-meet_argument
decreases-meet_argument l = argument_size l.x
