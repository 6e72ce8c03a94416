use Rattle.leo_turn.proofs.Assumptions.{AreAssumed}
use Rattle.leo_turn.proofs.starting.start.Given as goal

abbrev pub invariant-loop-number : goal.invariant-loop-number
invariant-loop-number l = AreAssumed l.initial.bank l.bank l.hyps l.depth l.weight l.search l.number
