use Rattle.std.proofs.Common.{◌+◌, ◌*◌}
use Rattle.leo_syntax.proofs.statements.+typing.Given as goal

abbrev pub decreases-typing : goal.decreases-typing
decreases-typing l = 2 * l.left

abbrev pub decreases-typing_inside : goal.decreases-typing_inside
decreases-typing_inside l = 2 * l.left + 1
