use Rattle.leo_problem.specs.Steps.{AreAssumedUpTo}
use Rattle.leo_problem.proofs.assuming.hypotheses.Given as goal

abbrev pub invariant-loop-one : goal.invariant-loop-one
invariant-loop-one l = AreAssumedUpTo l.initial.bank l.bank l.names l.kept l.found l.one-index
