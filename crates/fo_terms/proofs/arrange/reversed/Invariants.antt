use Rattle.std.proofs.Common.{◌≡◌, ◌≤◌, length, drop, reverse}
use Rattle.fo_terms.specs.Bindings.{IsIndexed}
use Rattle.fo_terms.proofs.arrange.reversed.Given as goal

abbrev pub invariant-loop-at : goal.invariant-loop-at
invariant-loop-at l = (l.at ≤ length l.done) × (l.bindings.made.items ≡ reverse (drop l.at l.done)) × IsIndexed l.bindings.made.items l.bindings.numbers

abbrev pub decreases-loop-at : goal.decreases-loop-at
decreases-loop-at l = l.at
