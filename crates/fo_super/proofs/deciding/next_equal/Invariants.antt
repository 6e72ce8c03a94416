use Rattle.std.proofs.Common.{ℕ, ◌≡◌, ◌<◌, ◌≤◌, Some, slice_get}
use Rattle.fo_super.proofs.deciding.next_equal.Given as goal

abbrev pub invariant-loop-number : goal.invariant-loop-number
invariant-loop-number l = (i : ℕ) → l.from ≤ i → i < l.number → slice_get l.masks i ≡ Some l.mask → ⊥
