use Rattle.std.proofs.Common.{◌≡◌, ◌≤◌, ◌++◌, length}
use Rattle.std.specs.Prelude.{decimal}
use Rattle.fo_text.proofs.number.digits.Given as goal

abbrev pub invariant-loop-more : goal.invariant-loop-more
invariant-loop-more l = (decimal l.first ++ l.tail ≡ decimal l.value ++ l.rest) × (l.first ≤ l.value) × (l.value ≤ l.most)

abbrev pub decreases-loop-more : goal.decreases-loop-more
decreases-loop-more l = length l.rest
