-- A clause in two parts: its variables, and its literals.
use Rattle.std.specs.Prelude.{ℕ, ◌≡◌, ◌≤◌, Bool, List, [], ◌∷◌, ◌++◌, length, Some, slice_get, decimal, if◌then◌else◌, ◌==◌}
use Rattle.std.specs.List.{AllByRecursion, flat_map}
use Rattle.fo_text.specs.declared.problem.FoSym.{FoSym}
use Rattle.fo_text.specs.declared.problem.FoLit.{FoLit}
use Rattle.fo_text.specs.Words.{most_number, space, newline, numbers_text}
use Rattle.fo_text.specs.Problems.{AreSorts, IsLiteral}
use Rattle.fo_text.specs.Spellings.{literal_text}

-- how many there may be
abbrev pub most_if : Bool → ℕ
most_if some = if some then most_number else 0

pub record AreVars (sorts : ℕ) (vars : List ℕ) : Type 0 where
  pub count : length vars ≤ most_number
  pub sorted : AreSorts sorts vars

abbrev pub vars_text : List ℕ → List ℕ
vars_text vars = decimal (length vars) ++ (numbers_text vars ++ space ∷ [])

pub record AreLits (vars : List ℕ) (syms : List FoSym) (lits : List FoLit) : Type 0 where
  pub count : length lits ≤ most_number
  pub each : AllByRecursion (IsLiteral vars syms) lits

abbrev pub lits_text : List FoLit → List ℕ
lits_text lits = decimal (length lits) ++ (flat_map literal_text lits ++ newline ∷ [])

-- the byte behind so many literals of a line
abbrev pub behind_lits : ℕ → ℕ → ℕ
behind_lits read count = if read == count then newline else space

-- a symbol has no arguments
abbrev pub HasConstant : List FoSym → Type 0
HasConstant syms = (f : ℕ) × (y : FoSym) × (slice_get syms f ≡ Some y) × (y.args ≡ [])
