use Rattle.std.proofs.Common.{◌≡◌, drop, slice_get}
use Rattle.leo_problem.specs.Theories.{typing_files}
use Rattle.leo_problem.proofs.typed.typing_file.Given as goal

abbrev pub invariant-loop-one : goal.invariant-loop-one
invariant-loop-one l = slice_get (typing_files (drop l.one-index l.kept)) l.left ≡ slice_get (typing_files l.kept) l.place
