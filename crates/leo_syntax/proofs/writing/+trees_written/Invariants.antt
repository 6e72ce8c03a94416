use Rattle.std.proofs.Common.{◌≡◌, ◌++◌, drop, map}
use Rattle.leo_syntax.specs.Texts.{arguments_written, writer}
use Rattle.leo_syntax.proofs.writing.+trees_written.Given as goal

abbrev pub invariant-arguments-loop-at : goal.invariant-arguments-loop-at
invariant-arguments-loop-at l = l.out.items ++ arguments_written l.last (map writer (drop l.at l.list)) ≡ l.fn.out.items ++ arguments_written l.last (map writer l.list)
