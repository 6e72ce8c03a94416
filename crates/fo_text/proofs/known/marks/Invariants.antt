use Rattle.std.proofs.Common.{ℕ, ◌≡◌, ◌<◌, Some, true, length}
use Rattle.std.specs.Prelude.{slice_get, ◌↔◌}
use Rattle.fo_text.specs.declared.problem.FoSym.{FoSym}
use Rattle.fo_text.specs.Known.{KnowsAll}
use Rattle.fo_text.proofs.known.marks.Given as goal

abbrev pub invariant-loop-sym : goal.invariant-loop-sym
invariant-loop-sym l = (length l.usable.items ≡ l.sym-index) × ((f : ℕ) (y : FoSym) → f < l.sym-index → slice_get l.syms f ≡ Some y → (slice_get l.usable.items f ≡ Some true) ↔ KnowsAll l.known y.args)
