use Rattle.std.proofs.Common.{◌≡◌, map}
use Rattle.leo_problem.specs.Gathering.{kept_in}
use Rattle.leo_problem.proofs.gathering.keep_all.Given as goal

abbrev pub invariant-loop-statement : goal.invariant-loop-statement
invariant-loop-statement l = l.kept.items ≡ map (kept_in l.file) l.yielded
