use Rattle.std.proofs.Common.{◌≡◌, ◌+◌, length}
use Rattle.fo_text.specs.Pieces.{common}
use Rattle.fo_text.proofs.field.common.Given as goal

abbrev pub invariant-loop-xs : goal.invariant-loop-xs
invariant-loop-xs l = (common l.first l.second ≡ l.count + common l.one l.other) × (l.count + length l.one ≡ length l.first)

abbrev pub decreases-loop-xs : goal.decreases-loop-xs
decreases-loop-xs l = length l.one
