use Rattle.std.proofs.Common.{length}
use Rattle.fo_replay.proofs.Paths.{IsReached}
use Rattle.fo_replay.proofs.places.find.Given as goal

abbrev pub invariant-loop-number : goal.invariant-loop-number
invariant-loop-number l = IsReached l.term l.path l.rest l.left

abbrev pub decreases-loop-number : goal.decreases-loop-number
decreases-loop-number l = length l.left
