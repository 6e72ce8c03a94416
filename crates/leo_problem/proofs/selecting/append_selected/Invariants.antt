use Rattle.std.proofs.Common.{◌≡◌, ◌++◌, length, drop}
use Rattle.leo_problem.specs.Gathering.{selected}
use Rattle.leo_problem.proofs.selecting.append_selected.Given as goal

abbrev pub invariant-loop-one : goal.invariant-loop-one
invariant-loop-one l = l.kept.items ++ selected l.names (drop (length l.yielded) l.fn.inner.items) ≡ l.fn.kept.items ++ selected l.names l.fn.inner.items
