use Rattle.std.proofs.Common.{◌≤◌, length}
use Rattle.fo_text.specs.Known.{IsGrown}
use Rattle.fo_text.proofs.known.sweep_back.Given as goal

abbrev pub invariant-loop-at : goal.invariant-loop-at
invariant-loop-at l = (l.at ≤ length l.syms) × IsGrown l.syms l.initial.known l.known

abbrev pub decreases-loop-at : goal.decreases-loop-at
decreases-loop-at l = l.at
