-- What becomes of a clause that was found, where some clauses are kept already.
use Rattle.std.specs.Prelude.{ℕ, ◌≡◌, ◌<◌, ◌≤◌, ◌⊎◌, List, [], ◌∷◌, length, slice_get, Option, Some, None}
use Rattle.leo_terms.specs.Contents.{Contents}
use Rattle.leo_clause.specs.declared.clause.Clause.{Clause}
use Rattle.leo_clause.specs.Trees.{ClauseTree}
use Rattle.leo_clause.specs.Typed.{IsTypedIn}
use Rattle.leo_clause.specs.Weights.{clause_weight}
use Rattle.leo_keep.specs.declared.outcomes.Outcome.{Outcome}
use Rattle.leo_keep.specs.declared.outcomes.Outcome.TheVariants as outcome
use Rattle.leo_keep.specs.Tautologies.{IsTautology}
use Rattle.leo_keep.specs.Subsumption.{Subsumes}

-- the clause has too many literals, or too many clauses are kept
abbrev pub LacksRoom : List ClauseTree → ClauseTree → Type 0
LacksRoom clauses c = (64 < length c.literals) ⊎ (200000 ≤ length clauses)

-- the clause weighs more than the limit, if there is one
abbrev pub IsHeavy : Option ℕ → ClauseTree → Type 0
IsHeavy None c = ⊥
IsHeavy (Some limit) c = limit < clause_weight c

-- the least number of a clause of which P holds
pub record IsLeast (P : ClauseTree → Type 0) (clauses : List ClauseTree) (n : ℕ) : Type 0 where
  pub clause : ClauseTree
  pub stands : slice_get clauses n ≡ Some clause
  pub holds : P clause
  pub least : (m : ℕ) (k : ClauseTree) → m < n → slice_get clauses m ≡ Some k → P k → ⊥

-- P holds of none of the clauses
abbrev pub HoldsOfNone : (ClauseTree → Type 0) → List ClauseTree → Type 0
HoldsOfNone P clauses = (m : ℕ) (k : ClauseTree) → slice_get clauses m ≡ Some k → P k → ⊥

-- nothing is against the clause, whatever the kept clauses say
pub record IsAdmitted (clauses : List ClauseTree) (c : ClauseTree) (limit : Option ℕ) : Type 0 where
  pub no_tautology : IsTautology c.literals → ⊥
  pub has_room : LacksRoom clauses c → ⊥
  pub not_heavy : IsHeavy limit c → ⊥

-- the first outcome that holds
pub data OutcomeOf (clauses : List ClauseTree) (c : ClauseTree) (limit : Option ℕ) : Outcome → Type 0 where
  tautology : IsTautology c.literals → OutcomeOf clauses c limit outcome.Tautology
  room : (IsTautology c.literals → ⊥) → LacksRoom clauses c → OutcomeOf clauses c limit outcome.Room
  heavy : (IsTautology c.literals → ⊥) → (LacksRoom clauses c → ⊥) → IsHeavy limit c → OutcomeOf clauses c limit outcome.Heavy
  copy : {n : ℕ} → IsAdmitted clauses c limit → IsLeast (λ k. k ≡ c) clauses n → OutcomeOf clauses c limit (outcome.Copy n)
  subsumed : {n : ℕ} → IsAdmitted clauses c limit → HoldsOfNone (λ k. k ≡ c) clauses → IsLeast (λ k. Subsumes k c) clauses n
      → OutcomeOf clauses c limit (outcome.Subsumed n)
  kept : IsAdmitted clauses c limit → HoldsOfNone (λ k. k ≡ c) clauses → HoldsOfNone (λ k. Subsumes k c) clauses
      → OutcomeOf clauses c limit outcome.Kept

-- typed clauses of a bank
abbrev pub AreTypedIn : Contents → List Clause → Type 0
AreTypedIn c [] = Unit {0}
AreTypedIn c (k ∷ ks) = IsTypedIn c k × AreTypedIn c ks
