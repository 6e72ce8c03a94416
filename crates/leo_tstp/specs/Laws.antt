-- Laws of the words of derivations.
use Rattle.std.specs.Prelude.{◌≡◌, ℕ, ◌<◌, ◌⊎◌, nat_eq, true, false, List, [], ◌∷◌, ◌++◌, codes, replicate}
use Rattle.std.specs.List.{starts_with}
use Rattle.leo_lex.specs.Spells.{HasTokens}
use Rattle.leo_elab.specs.Problem.{Declared}
use Rattle.leo_clause.specs.declared.record.StepRecord.{StepRecord}
use Rattle.leo_problem.specs.declared.loaded.Problem.{Problem}
use Rattle.leo_tstp.specs.Vocabulary.{new_prefix}
use Rattle.leo_tstp.specs.Derivations.{printed}
use Rattle.leo_tstp.specs.DerivationWords.{printed_words}
use Rattle.leo_tstp.specs.Atoms.{HasAtoms}
use Rattle.leo_tstp.specs.Nameable.{IsNameable}

-- `leo_`, `leo__` and so on, by how many `_` follow the first
abbrev pub prefix_with : ℕ → List ℕ
prefix_with n = codes "leo_" ++ replicate n 95

-- no atom begins so
abbrev pub IsFree : {A : Type 0} → List ℕ → List (List ℕ × A) → Type 0
IsFree prefix [] = Unit {0}
IsFree prefix (p ∷ ps) = (starts_with nat_eq p.0 prefix ≡ false) × IsFree prefix ps

-- an atom begins so
abbrev pub IsTaken : {A : Type 0} → List ℕ → List (List ℕ × A) → Type 0
IsTaken prefix [] = ⊥
IsTaken prefix (p ∷ ps) = (starts_with nat_eq p.0 prefix ≡ true) ⊎ IsTaken prefix ps

-- the first of them with which no atom begins
pub record IsFirstFree (d : Declared) (prefix : List ℕ) : Type 0 where
  pub marks : ℕ
  pub prefix_is : prefix ≡ prefix_with marks
  pub no_type : IsFree prefix d.types
  pub no_constant : IsFree prefix d.constants
  pub first : (m : ℕ) → m < marks → IsTaken (prefix_with m) d.types ⊎ IsTaken (prefix_with m) d.constants

-- the names of abbreviations begin as no atom does, and with the first such prefix
abbrev pub NewNames : Type 0
NewNames = (d : Declared) → IsFirstFree d (new_prefix d)

-- the text of a derivation that the problem has names for is cut into these words
abbrev pub PrintedWords : Type 0
PrintedWords = (p : Problem) (steps : List StepRecord) → HasAtoms p → IsNameable p steps → HasTokens (printed p steps) (printed_words p steps)
