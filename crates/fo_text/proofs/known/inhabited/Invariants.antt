use Rattle.std.proofs.Common.{length}
use Rattle.fo_text.specs.Known.{AreSound, HasVars, unknown_results}
use Rattle.fo_text.proofs.known.inhabited.Given as goal

abbrev pub invariant-loop-known : goal.invariant-loop-known
invariant-loop-known l = AreSound l.vars l.syms l.known × HasVars l.known l.vars (length l.vars)

abbrev pub decreases-loop-known : goal.decreases-loop-known
decreases-loop-known l = unknown_results l.known l.syms
