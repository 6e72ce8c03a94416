-- Runs of the machine and their answers.
use Rattle.std.specs.Prelude.{ℕ, ◌≡◌, ◌<◌, ◌≤◌, ◌/◌, ◌-◌, ◌⊎◌, List, [], length}
use Rattle.fo_text.specs.declared.problem.FoClause.{FoClause}
use Rattle.fo_text.specs.declared.problem.FoProblem.{FoProblem}
use Rattle.fo_text.specs.declared.answer.FoAnswer.{FoAnswer}
use Rattle.fo_text.specs.declared.answer.FoEnd.{FoEnd}
use Rattle.fo_text.specs.declared.answer.FoEnd.TheVariants.{GaveUp, Refuted}
use Rattle.fo_text.specs.declared.answer.FoStep.{FoStep}
use Rattle.fo_text.specs.AnswerSpellings.{answer_text}
use Rattle.fo_super.specs.Outcomes.{IsLeast, HoldsOfNone}
use Rattle.fo_super.specs.Turns.{Search, start, IsTurn}
use Rattle.fo_prove.specs.Refutations.{IsRefutation}

-- 1 MiB
abbrev pub most_bytes : ℕ
most_bytes = 1048576

abbrev pub IsEmptyClause : FoClause → Type 0
IsEmptyClause c = c.lits ≡ []

-- a beat for every tenth turn
abbrev pub beats_of : Search → ℕ
beats_of s = s.turns / 10

-- an answer of so many beats
abbrev pub with_beats : ℕ → FoEnd → FoAnswer
with_beats n end = record { beats = n; end = end }

abbrev pub IsWithin : FoAnswer → Type 0
IsWithin a = length (answer_text a) ≤ most_bytes

-- the beats so far and a line that gives up are within the limit
abbrev pub HasRoom : Search → Type 0
HasRoom s = IsWithin (with_beats (beats_of s) GaveUp)

-- a turn is due
pub record IsGoing (p : FoProblem) (s : Search) : Type 0 where
  pub room : HasRoom s
  pub no_empty : HoldsOfNone IsEmptyClause s.clauses
  pub turns_left : s.turns < p.turns
  pub passive_left : s.passive ≡ [] → ⊥

-- a run of the machine as far as this state
pub data IsRun (p : FoProblem) : Search → Type 0 where
  begun : IsRun p (start p)
  turned : {old new : Search} → IsRun p old → IsGoing p old → IsTurn p old new → IsRun p new

-- the answer of a run that ends in this state: the beat that is due passes the limit; or no empty clause stands, and no turn
-- is left or nothing is passive; or the refutation passes the limit, or it does not
pub data IsEnding (p : FoProblem) (s : Search) : FoAnswer → Type 0 where
  without_room : (HasRoom s → ⊥) → IsEnding p s (with_beats (beats_of s - 1) GaveUp)
  spent : HasRoom s → HoldsOfNone IsEmptyClause s.clauses → (s.turns ≡ p.turns) ⊎ (s.passive ≡ []) → IsEnding p s (with_beats (beats_of s) GaveUp)
  too_long : {e : ℕ} {steps : List FoStep} → HasRoom s → IsLeast IsEmptyClause s.clauses e → IsRefutation p s e steps →
      (IsWithin (with_beats (beats_of s) (Refuted steps)) → ⊥) → IsEnding p s (with_beats (beats_of s) GaveUp)
  refuted : {e : ℕ} {steps : List FoStep} → HasRoom s → IsLeast IsEmptyClause s.clauses e → IsRefutation p s e steps →
      IsWithin (with_beats (beats_of s) (Refuted steps)) → IsEnding p s (with_beats (beats_of s) (Refuted steps))

-- the answer of the child prover to a problem
pub record IsChildRun (p : FoProblem) (a : FoAnswer) : Type 0 where
  pub last : Search
  pub run : IsRun p last
  pub ending : IsEnding p last a
