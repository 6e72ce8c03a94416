use Rattle.std.proofs.Common.{length}
use Rattle.leo_ext.proofs.binding.+function_type.Given as goal

abbrev pub decreases-function_type : goal.decreases-function_type
decreases-function_type l = length l.types.now
