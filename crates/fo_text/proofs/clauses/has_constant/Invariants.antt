use Rattle.std.proofs.Common.{ℕ, ◌≡◌, ◌<◌, Some, []}
use Rattle.std.specs.Prelude.{slice_get}
use Rattle.fo_text.specs.declared.problem.FoSym.{FoSym}
use Rattle.fo_text.proofs.clauses.has_constant.Given as goal

abbrev pub invariant-loop-sym : goal.invariant-loop-sym
invariant-loop-sym l = (f : ℕ) (y : FoSym) → f < l.sym-index → slice_get l.syms f ≡ Some y → y.args ≡ [] → ⊥
