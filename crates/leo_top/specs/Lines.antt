-- What stands in the lines of an answer: texts as they are shown, and numbers.
use Rattle.std.specs.Prelude.{ℕ, ◌&&◌, nat_le, List, [], ◌∷◌, ◌++◌, map, if◌then◌else◌}
use Rattle.std.specs.List.{concat}

-- a byte as it is shown: `?` outside 32 to 126
abbrev pub shown_byte : ℕ → ℕ
shown_byte b = if nat_le 32 b && nat_le b 126 then b else 63

-- a file's name as it is shown
abbrev pub shown : List ℕ → List ℕ
shown name = map shown_byte name

-- a line, with its line feed
abbrev pub line : List (List ℕ) → List ℕ
line parts = concat parts ++ 10 ∷ []
