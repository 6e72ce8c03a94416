use Rattle.std.proofs.Common.{◌≡◌, ℕ, length, true, Some}
use Rattle.std.specs.Prelude.{slice_get}
use Rattle.fo_terms.proofs.arrange.Arranged.new.Given as goal

abbrev pub invariant-loop : goal.invariant-loop
invariant-loop l = (length l.marks.items ≡ l.counter) × ((k : ℕ) → slice_get l.marks.items k ≡ Some true → ⊥)
