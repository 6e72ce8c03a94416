use Rattle.std.proofs.Common.{◌≤◌, ◌-◌, length}
use Rattle.fo_kbo.specs.Outward.{AreSameBefore}
use Rattle.fo_kbo.proofs.outward.first_unlike.Given as goal

abbrev pub invariant-loop-at : goal.invariant-loop-at
invariant-loop-at l = AreSameBefore l.left l.right l.at × (l.at ≤ length l.left) × (l.at ≤ length l.right)

abbrev pub decreases-loop-at : goal.decreases-loop-at
decreases-loop-at l = length l.left - l.at
