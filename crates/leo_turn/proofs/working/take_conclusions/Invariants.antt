use Rattle.leo_turn.proofs.Worked.{AreTakenTo}
use Rattle.leo_turn.proofs.working.take_conclusions.Given as goal

abbrev pub invariant-loop-conclusion : goal.invariant-loop-conclusion
invariant-loop-conclusion l = AreTakenTo l.initial.bank l.bank l.initial.search l.search l.found l.conclusion-index
