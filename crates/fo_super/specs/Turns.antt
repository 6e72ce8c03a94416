-- The state of the child's machine, and what a turn makes of it.
use Rattle.std.specs.Prelude.{ℕ, zero, suc, ◌≡◌, ◌<◌, ◌+◌, ◌*◌, ◌⊎◌, Bool, true, false, List, [], ◌∷◌, ◌++◌, length, map, filter, nat_eq, not, Some, slice_get}
use Rattle.fo_terms.specs.Terms.{Terms}
use Rattle.fo_text.specs.declared.problem.FoClause.{FoClause}
use Rattle.fo_text.specs.declared.problem.FoProblem.{FoProblem}
use Rattle.fo_replay.specs.Replays.{clause_weight}
use Rattle.fo_super.specs.declared.outcomes.FoOutcome.{FoOutcome}
use Rattle.fo_super.specs.declared.outcomes.FoOutcome.TheVariants as outcome
use Rattle.fo_super.specs.Members.{Member, members, numbered_from}
use Rattle.fo_super.specs.Conclusions.{IsDue}
use Rattle.fo_super.specs.Outcomes.{OutcomeOf}

-- where a kept clause comes from: the text, or a member with the sorts and terms of its instance
pub data Origin : Type 0 where
  given : Origin
  concluded : (member : Member) (vars : List ℕ) (terms : Terms) → Origin

-- the kept clauses with their origins, the numbers of those that are passive, and how many turns were taken
pub record Search : Type 0 where
  pub clauses : List FoClause
  pub origins : List Origin
  pub passive : List ℕ
  pub turns : ℕ

-- every clause of the text is kept and passive
abbrev pub start : FoProblem → Search
start p = record { clauses = p.clauses; origins = map (λ c. given) p.clauses; passive = map (λ x. x.0) (numbered_from 0 p.clauses); turns = 0 }

-- of two passive clauses the first comes before the second: in a turn whose number is a multiple of 5 by its number, else by
-- its weight and then its number
abbrev pub IsBefore : Bool → List FoClause → ℕ → ℕ → Type 0
IsBefore true clauses m n = m < n
IsBefore false clauses m n =
    (c : FoClause) × (d : FoClause) × (slice_get clauses m ≡ Some c) × (slice_get clauses n ≡ Some d) × ((clause_weight c < clause_weight d) ⊎ ((clause_weight c ≡ clause_weight d) × (m < n)))

-- the turn goes by numbers: its own is a multiple of 5
abbrev pub IsByNumber : ℕ → Bool → Type 0
IsByNumber turn true = (n : ℕ) × (turn ≡ 5 * n)
IsByNumber turn false = (n : ℕ) → turn ≡ 5 * n → ⊥

-- the clause that is given in the next turn
pub record IsGiven (s : Search) (g : ℕ) (clause : FoClause) : Type 0 where
  pub by_number : Bool
  pub kind : IsByNumber (suc s.turns) by_number
  pub place : ℕ
  pub stands : slice_get s.passive place ≡ Some g
  pub clause_at : slice_get s.clauses g ≡ Some clause
  pub first : (i n : ℕ) → slice_get s.passive i ≡ Some n → (n ≡ g) ⊎ IsBefore by_number s.clauses g n

-- the members are worked in order: one that is not due is passed over, one that is due has its outcome against all
-- clauses that are kept by then, and is kept where that is the outcome
pub data Works (p : FoProblem) : List Member → List FoClause → List Origin → List FoClause → List Origin → Type 0 where
  done : {cs : List FoClause} {os : List Origin} → Works p [] cs os cs os
  passed : {m : Member} {ms : List Member} {cs ds : List FoClause} {os qs : List Origin} →
      ((vars : List ℕ) (terms : Terms) (instance c : FoClause) → IsDue p.sorts p.syms cs m vars terms instance c → ⊥) → Works p ms cs os ds qs → Works p (m ∷ ms) cs os ds qs
  refused : {m : Member} {ms : List Member} {cs ds : List FoClause} {os qs : List Origin} (vars : List ℕ) (terms : Terms) (instance c : FoClause) (o : FoOutcome) →
      IsDue p.sorts p.syms cs m vars terms instance c → OutcomeOf p.syms cs p.weight instance c o → (o ≡ outcome.Kept → ⊥) → Works p ms cs os ds qs → Works p (m ∷ ms) cs os ds qs
  kept : {m : Member} {ms : List Member} {cs ds : List FoClause} {os qs : List Origin} (vars : List ℕ) (terms : Terms) (instance c : FoClause) →
      IsDue p.sorts p.syms cs m vars terms instance c → OutcomeOf p.syms cs p.weight instance c outcome.Kept →
      Works p ms (cs ++ c ∷ []) (os ++ concluded m vars terms ∷ []) ds qs → Works p (m ∷ ms) cs os ds qs

-- the numbers from one on, so many
abbrev pub numbers_from : ℕ → ℕ → List ℕ
numbers_from n zero = []
numbers_from n (suc k) = n ∷ numbers_from (suc n) k

-- one turn: the given clause is no longer passive, its members are worked, and what was kept is passive
pub record IsTurn (p : FoProblem) (old new : Search) : Type 0 where
  pub given : ℕ
  pub clause : FoClause
  pub more : ℕ
  pub chosen : IsGiven old given clause
  pub worked : Works p (members old.clauses (filter (λ n. not (nat_eq n given)) old.passive) given clause) old.clauses old.origins new.clauses new.origins
  pub passive : new.passive ≡ filter (λ n. not (nat_eq n given)) old.passive ++ numbers_from (length old.clauses) more
  pub counted : length new.clauses ≡ length old.clauses + more
  pub turns : new.turns ≡ suc old.turns
