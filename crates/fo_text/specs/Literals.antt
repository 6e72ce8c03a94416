-- Literals with what stands behind them.
use Rattle.std.specs.Prelude.{ℕ, Bool, List, [], ◌∷◌, ◌++◌}
use Rattle.fo_text.specs.declared.problem.FoLit.{FoLit}
use Rattle.fo_text.specs.Words.{space}
use Rattle.fo_text.specs.Spellings.{sign_word, literal_text}

abbrev pub IsSign : Bool → Type 0
IsSign b = Unit {0}

-- a sign between two spaces
abbrev pub spaced_sign : Bool → List ℕ
spaced_sign b = space ∷ (sign_word b ++ space ∷ [])

abbrev pub ended_literal : ℕ → FoLit → List ℕ
ended_literal end l = literal_text l ++ end ∷ []
