use Rattle.std.proofs.Common.{◌+◌, ◌*◌}
use Rattle.leo_syntax.proofs.types.+ty.Given as goal

-- a part is read by parts of the level beyond it, or by one that stands lower in this order
abbrev pub decreases-read_type : goal.decreases-read_type
decreases-read_type l = 3 * l.left

abbrev pub decreases-operand_type : goal.decreases-operand_type
decreases-operand_type l = 3 * l.left + 2

abbrev pub decreases-type_inside : goal.decreases-type_inside
decreases-type_inside l = 3 * l.left + 1
