use Rattle.std.proofs.Common.{◌≡◌, ◌<◌, true, false}
use Rattle.fo_text.specs.Known.{IsGrown, HasResults, unknown_results}
use Rattle.fo_text.proofs.known.sweep.Given as goal

abbrev pub invariant-loop-sym : goal.invariant-loop-sym
invariant-loop-sym l =
    IsGrown l.syms l.initial.known l.known
    × (l.changed ≡ true → unknown_results l.known l.syms < unknown_results l.initial.known l.syms)
    × (l.changed ≡ false → HasResults l.known l.syms l.sym-index)
