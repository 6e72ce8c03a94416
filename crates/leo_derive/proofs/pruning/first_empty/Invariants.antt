use Rattle.std.proofs.Common.{ℕ, ◌≡◌, ◌<◌, map}
use Rattle.std.specs.Prelude.{slice_get, Some}
use Rattle.leo_kernel.specs.Steps.{Line, line_at}
use Rattle.leo_derive.specs.Resting.{IsEmptyLine}
use Rattle.leo_derive.proofs.pruning.first_empty.Given as goal

abbrev pub invariant-loop-number : goal.invariant-loop-number
invariant-loop-number l = (m : ℕ) (line : Line) → m < l.number → slice_get (map (line_at l.bank) l.lines) m ≡ Some line → IsEmptyLine line → ⊥
