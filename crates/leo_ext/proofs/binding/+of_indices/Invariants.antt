use Rattle.std.proofs.Common.{length}
use Rattle.leo_ext.proofs.binding.+of_indices.Given as goal

abbrev pub decreases-of_indices : goal.decreases-of_indices
decreases-of_indices l = length l.types.now
