use Rattle.std.proofs.Common.{ℕ, ◌≡◌, ◌<◌, Some}
use Rattle.std.specs.Prelude.{slice_get}
use Rattle.fo_terms.specs.Terms.{Term}
use Rattle.fo_index.specs.Meeting.{IsUnifiable, HasOnlyMet}
use Rattle.fo_index.proofs.index.FoIndex.meet.Given as goal

abbrev pub invariant-loop-number : goal.invariant-loop-number
invariant-loop-number l =
    HasOnlyMet l.term l.self l.found.items
    × ((k n : ℕ) (s : Term) → k < l.number-index → slice_get l.self k ≡ Some (n, s) → IsUnifiable s l.term → (i : ℕ) × (slice_get l.found.items i ≡ Some n))
