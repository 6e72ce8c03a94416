use Rattle.std.proofs.Common.{ℕ, ◌≡◌, Some}
use Rattle.std.specs.Prelude.{slice_get}
use Rattle.fo_text.specs.Known.{HasVars, Knows}
use Rattle.fo_text.proofs.known.of_variables.Given as goal

abbrev pub invariant-loop-var : goal.invariant-loop-var
invariant-loop-var l = HasVars l.known l.vars l.var-index × ((s : ℕ) → Knows l.known s → (v : ℕ) × (slice_get l.vars v ≡ Some s))
