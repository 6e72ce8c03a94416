use Rattle.leo_problem.specs.Steps.{AreCountedUpTo}
use Rattle.leo_problem.proofs.ruling.check_conjectures.Given as goal

abbrev pub invariant-loop-one : goal.invariant-loop-one
invariant-loop-one l = AreCountedUpTo l.found l.kept l.one-index
