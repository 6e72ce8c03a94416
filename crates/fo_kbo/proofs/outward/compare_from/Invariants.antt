use Rattle.std.proofs.Common.{◌≤◌}
use Rattle.fo_kbo.specs.Outward.{AreOrdered, ArePassed}
use Rattle.fo_kbo.specs.Tallies.{AreTallied}
use Rattle.fo_kbo.proofs.outward.compare_from.Given as goal

abbrev pub invariant-loop-here : goal.invariant-loop-here
invariant-loop-here l =
    AreOrdered l.left l.right l.level
    × ArePassed l.left l.right l.here l.level.at l.passed
    × (l.level.at ≤ l.at)
    × AreTallied l.left l.right l.level.at l.level.left_end l.level.right_end l.tallies.left l.tallies.right

abbrev pub decreases-loop-here : goal.decreases-loop-here
decreases-loop-here l = l.here
