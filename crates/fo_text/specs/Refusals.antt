-- Where a text is refused: at the first byte with which no text goes on.
use Rattle.fo_text.specs.declared.refusal.FoRefusal.{FoRefusal}
use Rattle.fo_text.specs.declared.refusal.FoRefusal.TheVariants.{Bad, Memory}
use Rattle.std.specs.Prelude.{ℕ, ◌≡◌, List, [], ◌∷◌, ◌++◌, length}

abbrev pub Language : Type 1
Language = List ℕ → Type 0

-- the texts of the values
abbrev pub Spells : {X : Type 0} → (X → Type 0) → (X → List ℕ) → List ℕ → Type 0
Spells {X} IsX text z = (x : X) × IsX x × (z ≡ text x)

-- and with anything behind
abbrev pub Opens : {X : Type 0} → (X → Type 0) → (X → List ℕ) → List ℕ → Type 0
Opens {X} IsX text z = (x : X) × IsX x × (rest : List ℕ) × (z ≡ text x ++ rest)

-- no text goes on with the first of these bytes, and where there is none, none ends there
abbrev pub Stops : (List ℕ → Type 0) → List ℕ → Type 0
Stops L [] = L [] → ⊥
Stops L (b ∷ bs) = (rest : List ℕ) → L (b ∷ rest) → ⊥

-- of the input, that many bytes are left where it is refused: some text begins with the bytes before,
-- and none goes on with what is left
pub record Refuses (Some None : List ℕ → Type 0) (input : List ℕ) (left : ℕ) : Type 0 where
  pub before : List ℕ
  pub after : List ℕ
  pub input_is : input ≡ before ++ after
  pub left_is : left ≡ length after
  pub rest : List ℕ
  pub goes_on : Some (before ++ rest)
  pub stops : Stops (λ z. None (before ++ z)) after

-- the first byte of the input with which no text goes on; the length of an input that ends early
pub record IsFirstBad (IsText : List ℕ → Type 0) (input : List ℕ) (byte : ℕ) : Type 0 where
  pub before : List ℕ
  pub after : List ℕ
  pub input_is : input ≡ before ++ after
  pub byte_is : byte ≡ length before
  pub rest : List ℕ
  pub goes_on : IsText (before ++ rest)
  pub stops : Stops (λ z. IsText (before ++ z)) after

-- why a text is refused
abbrev pub IsRefusal : (List ℕ → Type 0) → List ℕ → FoRefusal → Type 0
IsRefusal IsText input (Bad byte) = IsFirstBad IsText input byte
IsRefusal IsText input Memory = Unit {0}
