-- What is kept of a clause that is taken in.
use Rattle.std.specs.Prelude.{ℕ, ◌≡◌, Bool, true, false, List, [], ◌∷◌, ◌++◌, map, Option, Some, None}
use Rattle.leo_clause.specs.Choices.{Choice}
use Rattle.leo_clause.specs.Trees.{ClauseTree}
use Rattle.leo_clausify.specs.Splitting.{normal_literal, Splits, Overflows}
use Rattle.leo_keep.specs.declared.outcomes.Outcome.{Outcome}
use Rattle.leo_keep.specs.declared.outcomes.Outcome.TheVariants as outcome
use Rattle.leo_keep.specs.Outcomes.{OutcomeOf}

-- the clause with all sides in normal form
abbrev pub normal_clause : ClauseTree → ClauseTree
normal_clause c = record { variables = c.variables; literals = map normal_literal c.literals }

-- the limit on weights, where it is asked
abbrev pub limit_if : Bool → ℕ → Option ℕ
limit_if true weight = Some weight
limit_if false weight = None

-- a leaf is kept, as the last clause, if that is its outcome; else it is left out
pub data Takes (limit : Option ℕ) (kept : List ClauseTree) (leaf : ClauseTree) : List ClauseTree → Type 0 where
  added : OutcomeOf kept leaf limit outcome.Kept → Takes limit kept leaf (kept ++ leaf ∷ [])
  left_out : (o : Outcome) → OutcomeOf kept leaf limit o → (o ≡ outcome.Kept → ⊥) → Takes limit kept leaf kept

-- the leaves one after the other, each against all clauses that are kept by then
pub data TakesAll (limit : Option ℕ) : List ClauseTree → List ClauseTree → List ClauseTree → Type 0 where
  none_left : (kept : List ClauseTree) → TakesAll limit kept [] kept
  next : (kept middle later : List ClauseTree) (leaf : ClauseTree) (leaves : List ClauseTree) → Takes limit kept leaf middle → TakesAll limit middle leaves later → TakesAll limit kept (leaf ∷ leaves) later

-- the clauses that are kept, and the choice symbols that stand, after a clause was taken in: its normal form is split, and its
-- leaves are taken; or it has more than 256, and nothing changes. Numbers below `known` are those of earlier symbols.
pub data Intakes (known : ℕ) (limit : Option ℕ) (kept : List ClauseTree) (choices : List Choice) (clause : ClauseTree) : List ClauseTree → List Choice → Type 0 where
  splits : (later : List ClauseTree) (symbols : List Choice) (leaves : List ClauseTree) → Splits known 256 choices (normal_clause clause) symbols leaves → TakesAll limit kept leaves later → Intakes known limit kept choices clause later symbols
  overflows : Overflows known 256 choices (normal_clause clause) → Intakes known limit kept choices clause kept choices
