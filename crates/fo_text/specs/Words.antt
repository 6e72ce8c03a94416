-- Numbers as they stand in the texts.
use Rattle.std.specs.Prelude.{ℕ, List, ◌∷◌, decimal}
use Rattle.std.specs.List.{flat_map}

-- at most nine digits
abbrev pub most_number : ℕ
most_number = 999999999

abbrev pub space : ℕ
space = 32

abbrev pub newline : ℕ
newline = 10

-- each number behind a space
abbrev pub numbers_text : List ℕ → List ℕ
numbers_text ns = flat_map (λ n. space ∷ decimal n) ns
