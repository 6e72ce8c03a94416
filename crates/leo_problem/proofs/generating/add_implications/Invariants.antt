use Rattle.std.proofs.Common.{◌≡◌, ◌++◌}
use Rattle.leo_problem.specs.Generating.{implications}
use Rattle.leo_problem.proofs.generating.add_implications.Given as goal

abbrev pub invariant-loop-number : goal.invariant-loop-number
invariant-loop-number l = l.text.items ≡ l.initial.text.items ++ implications l.number
