-- What is so of pruned lines, and of lines whose symbols have other numbers.
use Rattle.std.specs.Prelude.{ℕ, ◌≡◌, List, ◌++◌, map, slice_get, Some}
use Rattle.leo_terms.specs.Tree.{Tree}
use Rattle.leo_kernel.specs.Steps.{Line}
use Rattle.leo_kernel.specs.Acceptance.{AreAccepted}
use Rattle.leo_derive.specs.Resting.{IsEmptyLine}
use Rattle.leo_derive.specs.Pruning.{IsPruned}
use Rattle.leo_derive.specs.Symbols.{symbols_in}
use Rattle.leo_derive.specs.Renaming.{symbols_mapped, line_mapped, symbols_in_lines, IsInjectiveOn}

-- one of the lines has no literals
pub record HasEmptyLine (lines : List Line) : Type 0 where
  pub number : ℕ
  pub line : Line
  pub line_is : slice_get lines number ≡ Some line
  pub empty : IsEmptyLine line

-- of accepted lines, the pruned ones are accepted, and one of them is empty
abbrev pub PrunedLinesAreAccepted : Type 0
PrunedLinesAreAccepted = (hypotheses : List Tree) (lines result : List Line) → AreAccepted hypotheses lines → IsPruned lines result → AreAccepted hypotheses result × HasEmptyLine result

-- accepted lines are accepted with other numbers for the symbols, in the hypotheses too
abbrev pub MappedLinesAreAccepted : Type 0
MappedLinesAreAccepted = (f : ℕ → ℕ) (hypotheses : List Tree) (lines : List Line) → IsInjectiveOn (symbols_in hypotheses ++ symbols_in_lines lines) f →
    AreAccepted hypotheses lines → AreAccepted (map (symbols_mapped f) hypotheses) (map (line_mapped f) lines)

-- and an empty line stays one
abbrev pub EmptyLinesStay : Type 0
EmptyLinesStay = (f : ℕ → ℕ) (lines : List Line) → HasEmptyLine lines → HasEmptyLine (map (line_mapped f) lines)
