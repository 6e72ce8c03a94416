use Rattle.std.proofs.Common.{◌≡◌, ◌++◌, drop}
use Rattle.leo_problem.specs.Theories.{typings}
use Rattle.leo_problem.proofs.typed.typings.Given as goal

abbrev pub invariant-loop-one : goal.invariant-loop-one
invariant-loop-one l = l.found.items ++ typings (drop l.one-index l.kept) ≡ typings l.kept
