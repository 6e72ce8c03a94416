use Rattle.std.proofs.Common.{◌-◌, length}
use Rattle.fo_kbo.specs.Difference.{IsRest}
use Rattle.fo_kbo.proofs.difference.first_difference.Given as goal

abbrev pub invariant-loop-at : goal.invariant-loop-at
invariant-loop-at l = IsRest l.left l.right l.at

abbrev pub decreases-loop-at : goal.decreases-loop-at
decreases-loop-at l = length l.left - l.at
