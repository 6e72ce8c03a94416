-- What a sink takes of a text.
use Rattle.std.specs.Prelude.{ℕ, ◌≡◌, ◌<◌, List, ◌++◌, length, take, Option}
use Rattle.std.specs.Option.{option_map}

-- a sink took the whole text
abbrev pub IsTaken : List ℕ → Option (List ℕ) → Option (List ℕ) → Type 0
IsTaken text before now = now ≡ option_map (λ bytes. bytes ++ text) before

-- a sink took a part of the text
pub record IsCut (text : List ℕ) (before now : Option (List ℕ)) : Type 0 where
  pub count : ℕ
  pub short : count < length text
  pub taken : IsTaken (take count text) before now
