use Rattle.std.proofs.Common.{ℕ, ◌≡◌, ◌<◌, slice_get, Some}
use Rattle.leo_terms.specs.Marks.{Marks}
use Rattle.leo_terms.proofs.part.mark_all.Given as goal

abbrev pub invariant-loop-t : goal.invariant-loop-t
invariant-loop-t l = Marks l.initial.marks.items l.marks.items (λ t. (k : ℕ) × (k < l.t-index) × (slice_get l.terms k ≡ Some t))
