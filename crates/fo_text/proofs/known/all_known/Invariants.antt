use Rattle.std.proofs.Common.{length}
use Rattle.std.specs.Prelude.{◌↔◌}
use Rattle.fo_text.specs.Known.{KnowsAll}
use Rattle.fo_text.proofs.known.all_known.Given as goal

abbrev pub invariant-loop-sort : goal.invariant-loop-sort
invariant-loop-sort l = KnowsAll l.known l.sorts ↔ KnowsAll l.known l.rest

abbrev pub decreases-loop-sort : goal.decreases-loop-sort
decreases-loop-sort l = length l.rest
