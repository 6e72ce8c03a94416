use Rattle.std.proofs.Common.{ℕ, ◌≡◌, ◌<◌, ◌≤◌, Some}
use Rattle.std.specs.Prelude.{slice_get}
use Rattle.fo_kbo.proofs.tally.are_at_least.Given as goal

abbrev pub invariant-loop-number : goal.invariant-loop-number
invariant-loop-number l = (v x y : ℕ) → v < l.number → slice_get l.first.counts v ≡ Some x → slice_get l.second.counts v ≡ Some y → y ≤ x
