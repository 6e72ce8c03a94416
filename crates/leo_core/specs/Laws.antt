-- Laws of runs.
use Rattle.std.specs.Prelude.{ℕ, suc, ◌≡◌, ◌≤◌, List, [], ◌∷◌, ◌++◌, length, slice_get, Option, Some, None}
use Rattle.leo_terms.specs.Tree.{Tree}
use Rattle.leo_terms.specs.Contents.{IsBank}
use Rattle.leo_kernel.specs.Steps.{Line}
use Rattle.leo_problem.specs.declared.loaded.Problem.{Problem}
use Rattle.leo_problem.specs.Loading.{IsProblem, ProblemOf, theory_of}
use Rattle.leo_problem.specs.Theories.{says}
use Rattle.leo_derive.specs.Verdicts.{hypotheses_of}
use Rattle.leo_turn.specs.Origins.{AreFrom}
use Rattle.leo_turn.specs.Turns.{Setting, State}
use Rattle.leo_core.specs.declared.event.Cause.{Cause}
use Rattle.leo_core.specs.declared.event.Cause.TheVariants.{Won, Limit, Exhausted, Memory}
use Rattle.leo_core.specs.declared.event.Event.{Event}
use Rattle.leo_core.specs.declared.event.Event.TheVariants.{Ended}
use Rattle.leo_core.specs.declared.event.Owed.{Owed}
use Rattle.leo_core.specs.Machine.{Standing, IsOwed, IsRefuted, IsRun}
use Rattle.leo_core.specs.Naming.{AreNameable}

-- there is one thing that is owed
pub record OwesOne (limit : ℕ) (s : Standing) : Type 0 where
  pub what : Option Owed
  pub is_owed : IsOwed limit s what
  pub no_other : (other : Option Owed) → IsOwed limit s other → other ≡ what

-- wherever a run stands, exactly one thing is owed, or nothing
abbrev pub OneIsOwed : Type 0
OneIsOwed = (limit : ℕ) (s : Standing) → OwesOne limit s

-- how many events a run has that has had so many turns
abbrev pub events : ℕ → Option Cause → ℕ
events turns None = turns
events turns (Some cause) = suc turns

-- a run has an event for each turn, and one for its end; and never more turns than the limit
abbrev pub RunsAreCounted : Type 0
RunsAreCounted = (setting : Setting) (limit : ℕ) (hypotheses : List Tree) (journal : List Event) (s : Standing) → IsRun setting limit hypotheses journal s
    → (length journal ≡ events s.state.turns s.ending) × (s.state.turns ≤ limit)

-- the end comes last and once, and it is how the run ended
abbrev pub EndsComeLast : Type 0
EndsComeLast = (setting : Setting) (limit : ℕ) (hypotheses : List Tree) (journal : List Event) (s : Standing) → IsRun setting limit hypotheses journal s
    → (n : ℕ) (cause : Cause) → slice_get journal n ≡ Some (Ended cause) → (suc n ≡ length journal) × (s.ending ≡ Some cause)

-- a run that ended has its end in its journal
abbrev pub EndsAreEntered : Type 0
EndsAreEntered = (setting : Setting) (limit : ℕ) (hypotheses : List Tree) (journal : List Event) (s : Standing) → IsRun setting limit hypotheses journal s
    → (cause : Cause) → s.ending ≡ Some cause → (earlier : List Event) × (journal ≡ earlier ++ Ended cause ∷ [])

-- lines that are from the hypotheses of a problem that its files say, or the generated text, are nameable by its atoms
abbrev pub LoadedLinesAreNameable : Type 0
LoadedLinesAreNameable = (told : List ℕ → Option (List ℕ)) (name : List ℕ) (root : Option (List ℕ)) (p : Problem) (lines : List Line) → IsBank p.bank → IsProblem p → ProblemOf told name root (says (theory_of p))
    → AreFrom (hypotheses_of p) lines → AreNameable (theory_of p).declared lines

-- what an ending says of the state: a run is won where the empty clause is kept; else it ended where its turns were as many as the limit, or else where no clause was passive; or there was no memory
abbrev pub Says : ℕ → State → Cause → Type 0
Says limit s Won = IsRefuted s
Says limit s Limit = (s.turns ≡ limit) × (IsRefuted s → ⊥)
Says limit s Exhausted = (s.passive ≡ []) × (s.turns ≡ limit → ⊥) × (IsRefuted s → ⊥)
Says limit s Memory = Unit {0}

abbrev pub EndingsAreRight : Type 0
EndingsAreRight = (setting : Setting) (limit : ℕ) (hypotheses : List Tree) (journal : List Event) (s : Standing) → IsRun setting limit hypotheses journal s
    → (cause : Cause) → s.ending ≡ Some cause → Says limit s.state cause
