use Rattle.std.proofs.Common.{◌≡◌, drop}
use Rattle.leo_problem.specs.Theories.{unlisted_role}
use Rattle.leo_problem.proofs.ruling.check_listed.Given as goal

abbrev pub invariant-loop-one : goal.invariant-loop-one
invariant-loop-one l = unlisted_role (drop l.one-index l.kept) ≡ unlisted_role l.kept
