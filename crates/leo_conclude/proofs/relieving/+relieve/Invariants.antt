use Rattle.std.proofs.Common.{◌+◌, ◌*◌}
use Rattle.leo_conclude.proofs.relieving.+relieve.Given as goal

abbrev pub decreases-relieve : goal.decreases-relieve
decreases-relieve l = 4 * l.room + 2

abbrev pub decreases-relieve_application : goal.decreases-relieve_application
decreases-relieve_application l = 4 * l.room + 3

abbrev pub decreases-relieve_heads : goal.decreases-relieve_heads
decreases-relieve_heads l = 4 * l.room + 3

abbrev pub decreases-relieve_parts : goal.decreases-relieve_parts
decreases-relieve_parts l = 4 * l.room + 1
