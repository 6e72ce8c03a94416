use Rattle.std.proofs.Common.{◌≡◌, ◌≤◌, length}
use Rattle.fo_terms.specs.Places.{AreEndsFrom}
use Rattle.fo_terms.proofs.places.ends_of.Given as goal

abbrev pub invariant-loop-at : goal.invariant-loop-at
invariant-loop-at l = (l.at ≤ length l.nodes) × (length l.ends.items ≡ length l.nodes) × AreEndsFrom l.at l.nodes l.ends.items

abbrev pub decreases-loop-at : goal.decreases-loop-at
decreases-loop-at l = l.at
