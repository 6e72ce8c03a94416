-- What becomes of a clause that was found.
use Rattle.std.specs.Prelude.{ℕ, ◌≡◌, ◌<◌, ◌≤◌, ◌⊎◌, List, length, slice_get, Some}
use Rattle.std.specs.List.{AllByRecursion}
use Rattle.fo_terms.specs.Terms.{Term, Terms, variable, symbol, none, more}
use Rattle.fo_text.specs.declared.problem.FoSym.{FoSym}
use Rattle.fo_text.specs.declared.problem.FoLit.{FoLit}
use Rattle.fo_text.specs.declared.problem.FoClause.{FoClause}
use Rattle.fo_replay.specs.Replays.{clause_weight}
use Rattle.fo_super.specs.declared.outcomes.FoOutcome.{FoOutcome}
use Rattle.fo_super.specs.declared.outcomes.FoOutcome.TheVariants as outcome
use Rattle.fo_super.specs.Tautologies.{IsTautology}
use Rattle.fo_super.specs.Subsumption.{Subsumes}

-- the clause has too many literals, or too many clauses are kept
abbrev pub LacksRoom : List FoClause → FoClause → Type 0
LacksRoom clauses c = (64 < length c.lits) ⊎ (100000 ≤ length clauses)

-- the clause weighs more than the limit, or the instance of which it is a part cannot be replayed
abbrev pub IsHeavy : ℕ → FoClause → FoClause → Type 0
IsHeavy limit instance c = (limit < clause_weight c) ⊎ (100000 < clause_weight instance)

-- each variable of the term has one sort in both clauses
abbrev mutual
  pub HasSameSorts : List ℕ → List ℕ → Term → Type 0
  HasSameSorts vars wars (variable v) = slice_get vars v ≡ slice_get wars v
  HasSameSorts vars wars (symbol f ts) = HaveSameSorts vars wars ts

  pub HaveSameSorts : List ℕ → List ℕ → Terms → Type 0
  HaveSameSorts vars wars none = Unit {0}
  HaveSameSorts vars wars (more t ts) = HasSameSorts vars wars t × HaveSameSorts vars wars ts

abbrev pub HasLiteralSameSorts : List ℕ → List ℕ → FoLit → Type 0
HasLiteralSameSorts vars wars l = HasSameSorts vars wars l.left × HasSameSorts vars wars l.right

-- the clauses differ at most in variables that stand in no literal
pub record IsIdentical (c d : FoClause) : Type 0 where
  pub literals : c.lits ≡ d.lits
  pub sorts : AllByRecursion (HasLiteralSameSorts c.vars d.vars) c.lits

-- the least number of a clause of which P holds
pub record IsLeast (P : FoClause → Type 0) (clauses : List FoClause) (n : ℕ) : Type 0 where
  pub clause : FoClause
  pub stands : slice_get clauses n ≡ Some clause
  pub holds : P clause
  pub least : (m : ℕ) (k : FoClause) → m < n → slice_get clauses m ≡ Some k → P k → ⊥

-- P holds of none of the clauses
abbrev pub HoldsOfNone : (FoClause → Type 0) → List FoClause → Type 0
HoldsOfNone P clauses = (m : ℕ) (k : FoClause) → slice_get clauses m ≡ Some k → P k → ⊥

-- nothing is against the clause, whatever the kept clauses say
pub record IsAdmitted (clauses : List FoClause) (limit : ℕ) (instance c : FoClause) : Type 0 where
  pub no_tautology : IsTautology c.lits → ⊥
  pub has_room : LacksRoom clauses c → ⊥
  pub not_heavy : IsHeavy limit instance c → ⊥

-- the first outcome that holds of a clause that is a part of an instance
pub data OutcomeOf (syms : List FoSym) (clauses : List FoClause) (limit : ℕ) (instance c : FoClause) : FoOutcome → Type 0 where
  tautology : IsTautology c.lits → OutcomeOf syms clauses limit instance c outcome.Tautology
  room : (IsTautology c.lits → ⊥) → LacksRoom clauses c → OutcomeOf syms clauses limit instance c outcome.Room
  heavy : (IsTautology c.lits → ⊥) → (LacksRoom clauses c → ⊥) → IsHeavy limit instance c → OutcomeOf syms clauses limit instance c outcome.Heavy
  copy : {n : ℕ} → IsAdmitted clauses limit instance c → IsLeast (λ k. IsIdentical k c) clauses n → OutcomeOf syms clauses limit instance c (outcome.Copy n)
  subsumed : {n : ℕ} → IsAdmitted clauses limit instance c → HoldsOfNone (λ k. IsIdentical k c) clauses → IsLeast (λ k. Subsumes syms k c) clauses n
      → OutcomeOf syms clauses limit instance c (outcome.Subsumed n)
  kept : IsAdmitted clauses limit instance c → HoldsOfNone (λ k. IsIdentical k c) clauses → HoldsOfNone (λ k. Subsumes syms k c) clauses
      → OutcomeOf syms clauses limit instance c outcome.Kept
