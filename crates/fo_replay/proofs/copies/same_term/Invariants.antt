use Rattle.std.proofs.Common.{◌≡◌, length}
use Rattle.std.specs.Prelude.{◌↔◌}
use Rattle.fo_terms.specs.Prefix.{prefix}
use Rattle.fo_replay.proofs.copies.same_term.Given as goal

abbrev pub invariant-loop-ones : goal.invariant-loop-ones
invariant-loop-ones l = (prefix l.one ≡ prefix l.other) ↔ (l.left ≡ l.right)

abbrev pub decreases-loop-ones : goal.decreases-loop-ones
decreases-loop-ones l = length l.left
