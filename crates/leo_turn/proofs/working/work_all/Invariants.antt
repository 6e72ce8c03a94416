use Rattle.leo_turn.proofs.Worked.{AreWorkedTo}
use Rattle.leo_turn.proofs.working.work_all.Given as goal

abbrev pub invariant-loop-due : goal.invariant-loop-due
invariant-loop-due l = AreWorkedTo l.initial.bank l.bank l.initial.search l.search l.dues l.due-index
