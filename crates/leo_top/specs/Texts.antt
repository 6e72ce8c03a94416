-- The texts of the answers.
use Rattle.std.specs.Prelude.{ℕ, List, [], ◌∷◌, ◌++◌, Option, Some, None, codes, decimal, if◌then◌else◌}
use Rattle.leo_problem.specs.declared.refusal.What.{What}
use Rattle.leo_top.specs.Lines.{shown, line}
use Rattle.leo_top.specs.Refusals.{cause_words, is_of_file}

-- the status line: the status, and the file or the program that it is for
unfoldable pub status_line : List ℕ → List ℕ → List ℕ
status_line word subject = line (codes "% SZS status " ∷ word ∷ codes " for " ∷ shown subject ∷ [])

-- the lines before and after a derivation
unfoldable pub start_line : List ℕ → List ℕ
start_line file = line (codes "% SZS output start Refutation for " ∷ shown file ∷ [])

unfoldable pub end_line : List ℕ → List ℕ
end_line file = line (codes "% SZS output end Refutation for " ∷ shown file ∷ [])

-- a line on the file
unfoldable pub file_line : List ℕ → List ℕ → List ℕ
file_line file words = line (codes "% leo3: " ∷ shown file ∷ codes ": " ∷ words ∷ [])

-- a line on a byte of the file
unfoldable pub byte_line : List ℕ → ℕ → List ℕ → List ℕ
byte_line file byte words = line (codes "% leo3: " ∷ shown file ∷ codes ": byte " ∷ decimal byte ∷ codes ": " ∷ words ∷ [])

-- the line on a generated problem: its number, and how many statements it has
unfoldable pub generated_line : ℕ → ℕ → List ℕ
generated_line n statements = line (codes "% leo3: gen " ∷ decimal n ∷ codes ": " ∷ decimal statements ∷ codes " statements" ∷ [])

-- what is said about a problem: nothing about one from files
abbrev pub about_lines : Option ℕ → ℕ → List (List ℕ)
about_lines None statements = []
about_lines (Some n) statements = generated_line n statements ∷ []

-- the line on the end of the clauses
unfoldable pub turns_line : ℕ → List ℕ
turns_line turns = line (codes "% leo3: no clause left after " ∷ decimal turns ∷ codes " turns" ∷ [])

-- the line on the end of the turns
unfoldable pub limit_line : ℕ → List ℕ
limit_line turns = line (codes "% leo3: turn limit " ∷ decimal turns ∷ [])

-- the lines with which each answer to a loaded problem begins
abbrev pub opening_lines : List ℕ → List ℕ → List (List ℕ) → List (List ℕ)
opening_lines word file about = status_line word file ∷ about

-- the lines of a refutation, whose derivation is one piece
abbrev pub refuted_lines : List ℕ → List ℕ → List (List ℕ) → List ℕ → List (List ℕ)
refuted_lines word file about printed = opening_lines word file about ++ start_line file ∷ printed ∷ end_line file ∷ []

-- the lines of a search that ended with no clause left
abbrev pub exhausted_lines : List ℕ → List ℕ → List (List ℕ) → ℕ → List (List ℕ)
exhausted_lines word file about turns = opening_lines word file about ++ turns_line turns ∷ []

-- the lines of a search that ended at its limit of turns
abbrev pub limit_lines : List ℕ → List ℕ → List (List ℕ) → ℕ → List (List ℕ)
limit_lines word file about turns = opening_lines word file about ++ limit_line turns ∷ []

-- the line on a file in which that is wrong, at that byte
abbrev pub cause_line : List ℕ → ℕ → What → List ℕ
cause_line about byte w = if is_of_file w then file_line about (cause_words w) else byte_line about byte (cause_words w)

-- the lines of a problem that is refused, with the file in which that is wrong
abbrev pub refused_lines : List ℕ → List ℕ → List ℕ → ℕ → What → List (List ℕ)
refused_lines word file about byte w = status_line word file ∷ cause_line about byte w ∷ []
