-- A number with the byte behind it.
use Rattle.std.specs.Prelude.{ℕ, ◌≡◌, ◌+◌, ◌-◌, ◌*◌, ◌<◌, ◌≤◌, Bool, true, false, ◌||◌, ◌==◌, List, [], ◌∷◌, ◌++◌, decimal, if◌then◌else◌}
use Rattle.fo_text.specs.declared.number.Ends.{Ends}
use Rattle.fo_text.specs.declared.number.Ends.TheVariants.{Space, Line, SpaceOrLine, DotOrLine, LineAtZero}

-- which bytes may stand behind a number
abbrev pub ends_with : Ends → ℕ → ℕ → Bool
ends_with Space n b = b == 32
ends_with Line n b = b == 10
ends_with SpaceOrLine n b = (b == 32) || (b == 10)
ends_with DotOrLine n b = (b == 46) || (b == 10)
ends_with LineAtZero n b = if n == 0 then b == 10 else b == 32

abbrev pub may_end : Ends → ℕ → List ℕ → Bool
may_end ends n [] = false
may_end ends n (b ∷ bs) = ends_with ends n b

-- a number with the byte behind it
pub record IsNumberWord (least most : ℕ) (ends : Ends) (w : ℕ × ℕ) : Type 0 where
  pub not_below : least ≤ w.0
  pub not_above : w.0 ≤ most
  pub ended : ends_with ends w.0 w.1 ≡ true

abbrev pub number_word : ℕ × ℕ → List ℕ
number_word w = decimal w.0 ++ w.1 ∷ []

-- what was read is a number, and what is left begins with a byte that may stand behind it
pub record IsRead (least most : ℕ) (ends : Ends) (input : List ℕ) (n : ℕ) (rest : List ℕ) : Type 0 where
  pub input_is : input ≡ decimal n ++ rest
  pub not_below : least ≤ n
  pub not_above : n ≤ most
  pub ended : may_end ends n rest ≡ true

-- one more digit was read
pub record Extends (rest : List ℕ) (value more : ℕ) (tail : List ℕ) : Type 0 where
  pub byte : ℕ
  pub rest_is : rest ≡ byte ∷ tail
  pub low : 48 ≤ byte
  pub high : byte ≤ 57
  pub positive : 0 < value
  pub more_is : more ≡ 10 * value + (byte - 48)

-- no number up to the most goes on with the next digit
abbrev pub NoneExtends : ℕ → ℕ → List ℕ → Type 0
NoneExtends most value [] = Unit {0}
NoneExtends most value (b ∷ bs) = 48 ≤ b → b ≤ 57 → 0 < value → most < 10 * value + (b - 48)

-- one digit was read
pub record Begins (input : List ℕ) (value : ℕ) (tail : List ℕ) : Type 0 where
  pub input_is : input ≡ (48 + value) ∷ tail
  pub digit : value ≤ 9

-- no number from the least up to the most begins with the next digit
abbrev pub NoneBegins : ℕ → ℕ → List ℕ → Type 0
NoneBegins least most [] = Unit {0}
NoneBegins least most (b ∷ bs) = 48 ≤ b → b ≤ 57 → least ≤ b - 48 → most < b - 48

-- the digits were read as far as a number up to the most has them
pub record IsLongest (most first : ℕ) (tail : List ℕ) (n : ℕ) (rest : List ℕ) : Type 0 where
  pub same : decimal first ++ tail ≡ decimal n ++ rest
  pub from : first ≤ n
  pub not_above : n ≤ most
  pub stops : NoneExtends most n rest
