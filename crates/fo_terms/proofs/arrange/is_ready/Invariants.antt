use Rattle.std.proofs.Common.{◌≡◌, ◌<◌, ◌≤◌, ℕ, true, Some}
use Rattle.std.specs.Prelude.{slice_get}
use Rattle.fo_terms.specs.Bindings.{IsBoundAt}
use Rattle.fo_terms.proofs.arrange.is_ready.Given as goal

abbrev pub invariant-loop-here : goal.invariant-loop-here
invariant-loop-here l = (p k : ℕ) → l.at ≤ p → p < l.here → IsBoundAt l.places.nodes.items l.bindings.made.items k p → slice_get l.marks k ≡ Some true
