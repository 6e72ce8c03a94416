-- Problems whose names are such as tokens say.
use Rattle.std.specs.Prelude.{ℕ, Bool, ◌&&◌, nat_le, List, [], ◌∷◌, ◌≡◌, None}
use Rattle.leo_lex.specs.Forms.{Each}
use Rattle.leo_elab.specs.Problem.{named}
use Rattle.leo_problem.specs.declared.loaded.Hyp.{Hyp}
use Rattle.leo_problem.specs.declared.loaded.Problem.{Problem}

-- a byte that may stand between quotes
abbrev pub is_shown : ℕ → Bool
is_shown b = nat_le 32 b && nat_le b 126

-- a byte at least, and each from 32 to 126
abbrev pub IsAtom : List ℕ → Type 0
IsAtom [] = ⊥
IsAtom (b ∷ bs) = Each is_shown (b ∷ bs)

abbrev pub AreAtoms : {A : Type 0} → List (List ℕ × A) → Type 0
AreAtoms [] = Unit {0}
AreAtoms (p ∷ ps) = IsAtom p.0 × AreAtoms ps

-- the names of the statements
abbrev pub AreNamesOfStatements : List Hyp → Type 0
AreNamesOfStatements [] = Unit {0}
AreNamesOfStatements (h ∷ hs) = IsAtom h.name × AreNamesOfStatements hs

-- each atom and each name of a statement is one that a token says
pub record HasAtoms (p : Problem) : Type 0 where
  pub types : AreAtoms p.names.types
  pub constants : AreAtoms p.names.constants
  pub statements : AreNamesOfStatements p.hyps

-- no atom stands twice
abbrev pub AreDistinct : List (List ℕ × ℕ) → Type 0
AreDistinct [] = Unit {0}
AreDistinct (p ∷ ps) = (named p.0 ps ≡ None) × AreDistinct ps

-- no atom is declared twice as a type, and none as a constant
pub record HasDistinctAtoms (p : Problem) : Type 0 where
  pub types : AreDistinct p.names.types
  pub constants : AreDistinct p.names.constants
