use Rattle.std.proofs.Common.{ℕ, ◌≡◌, ◌<◌, ◌≤◌, Some, slice_get}
use Rattle.std.specs.Prelude.{bit_and}
use Rattle.fo_super.proofs.deciding.next_within.Given as goal

abbrev pub invariant-loop-number : goal.invariant-loop-number
invariant-loop-number l = (i m : ℕ) → l.from ≤ i → i < l.number → slice_get l.masks i ≡ Some m → bit_and m l.mask ≡ m → ⊥
