use Rattle.std.proofs.Common.{◌+◌, ◌*◌}
use Rattle.leo_unify.proofs.residues.+left.Given as goal

abbrev pub decreases-left_of_heads : goal.decreases-left_of_heads
decreases-left_of_heads l = 3 * l.l

abbrev pub decreases-left_of_parts : goal.decreases-left_of_parts
decreases-left_of_parts l = 3 * l.l + 1

abbrev pub decreases-left_of : goal.decreases-left_of
decreases-left_of l = 3 * l.l + 2
