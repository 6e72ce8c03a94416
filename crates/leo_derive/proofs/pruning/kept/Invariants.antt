use Rattle.std.proofs.Common.{ℕ, ◌≡◌, ◌<◌, ◌++◌, length, map, drop, get_or}
use Rattle.leo_kernel.specs.Records.{AreStepsOf}
use Rattle.leo_kernel.specs.Steps.{line_at}
use Rattle.leo_derive.specs.Marking.{is_marked}
use Rattle.leo_derive.specs.Pruning.{kept_before, kept_lines}
use Rattle.leo_derive.proofs.pruning.kept.Given as goal

abbrev pub invariant-loop-at : goal.invariant-loop-at
invariant-loop-at l = (length l.numbers.items ≡ l.at)
    × ((n : ℕ) → n < l.at → get_or l.numbers.items n 0 ≡ kept_before (is_marked l.marks) n)
    × (length l.found.items ≡ kept_before (is_marked l.marks) l.at)
    × (map (line_at l.bank) l.found.items ++ kept_lines (is_marked l.marks) l.at (drop l.at (map (line_at l.bank) l.lines)) ≡ kept_lines (is_marked l.marks) 0 (map (line_at l.bank) l.lines))
    × AreStepsOf l.bank l.found.items
