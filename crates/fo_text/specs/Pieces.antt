-- The pieces of a text.
use Rattle.fo_text.specs.declared.problem.FoSym.{FoSym}
use Rattle.std.specs.Prelude.{ℕ, ◌<◌, ◌^◌, suc, ◌≡◌, ◌≤◌, List, [], ◌∷◌, length, ◌==◌, if◌then◌else◌}
use Rattle.std.specs.List.{AllByRecursion}

-- how many bytes two lists have in common at the front
abbrev pub common : List ℕ → List ℕ → ℕ
common [] ys = 0
common (x ∷ xs) [] = 0
common (x ∷ xs) (y ∷ ys) = if x == y then suc (common xs ys) else 0

-- the byte stands first
abbrev pub StandsFirst : ℕ → List ℕ → Type 0
StandsFirst b [] = ⊥
StandsFirst b (x ∷ xs) = x ≡ b

-- one word that is always the same
abbrev pub IsKeyword : Unit {0} → Type 0
IsKeyword u = Unit {0}

abbrev pub keyword_text : List ℕ → Unit {0} → List ℕ
keyword_text word u = word

abbrev pub IsBetween : ℕ → ℕ → ℕ → Type 0
IsBetween least most n = (least ≤ n) × (n ≤ most)

-- that many values
abbrev pub AreMany : {X : Type 0} → (X → Type 0) → ℕ → List X → Type 0
AreMany IsX n xs = (length xs ≡ n) × AllByRecursion IsX xs

-- a symbol's arguments can be counted in 32 bits
abbrev pub HasFewArgs : FoSym → Type 0
HasFewArgs y = length y.args < 2 ^ 32
