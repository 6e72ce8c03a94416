use Rattle.std.proofs.Common.{◌≡◌, drop}
use Rattle.leo_problem.specs.Gathering.{is_among}
use Rattle.leo_problem.proofs.selecting.is_among.Given as goal

abbrev pub invariant-loop-other : goal.invariant-loop-other
invariant-loop-other l = is_among l.name (drop l.other-index l.names) ≡ is_among l.name l.names
