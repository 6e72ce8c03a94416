-- The machine of the search: what is due, what each event does, and the runs.
use Rattle.std.specs.Prelude.{ℕ, ◌≡◌, List, [], ◌∷◌, ◌++◌, slice_get, Option, Some, None}
use Rattle.leo_terms.specs.Tree.{Tree}
use Rattle.leo_clause.specs.Trees.{ClauseTree}
use Rattle.leo_turn.specs.Turns.{Setting, State, IsStart, IsTurn}
use Rattle.leo_core.specs.declared.event.Cause.{Cause}
use Rattle.leo_core.specs.declared.event.Cause.TheVariants.{Won, Limit, Exhausted, Memory}
use Rattle.leo_core.specs.declared.event.Event.{Event}
use Rattle.leo_core.specs.declared.event.Event.TheVariants as event
use Rattle.leo_core.specs.declared.event.Owed.{Owed}
use Rattle.leo_core.specs.declared.event.Owed.TheVariants as owed

-- where a run stands: the state of the search, and why the run ended, if it has
pub record Standing : Type 0 where
  pub state : State
  pub ending : Option Cause

-- one of the clauses has no literals
pub record HasEmptyClause (clauses : List ClauseTree) : Type 0 where
  pub number : ℕ
  pub clause : ClauseTree
  pub stands : slice_get clauses number ≡ Some clause
  pub empty : clause.literals ≡ []

-- the empty clause is kept
abbrev pub IsRefuted : State → Type 0
IsRefuted s = HasEmptyClause s.stock.clauses

-- what is due in a state, the first that holds: the end, where the empty clause is kept, where there were as many turns as the limit, or where no clause is passive; else a turn
pub data IsDue (limit : ℕ) (s : State) : Owed → Type 0 where
  won : IsRefuted s → IsDue limit s (owed.End Won)
  at_limit : (IsRefuted s → ⊥) → s.turns ≡ limit → IsDue limit s (owed.End Limit)
  exhausted : (IsRefuted s → ⊥) → (s.turns ≡ limit → ⊥) → s.passive ≡ [] → IsDue limit s (owed.End Exhausted)
  a_turn : (IsRefuted s → ⊥) → (s.turns ≡ limit → ⊥) → (s.passive ≡ [] → ⊥) → IsDue limit s owed.Turn

-- what a run owes: what is due, until it has ended, and nothing from then on
pub data IsOwed (limit : ℕ) (s : Standing) : Option Owed → Type 0 where
  due : (what : Owed) → s.ending ≡ None → IsDue limit s.state what → IsOwed limit s (Some what)
  nothing : (cause : Cause) → s.ending ≡ Some cause → IsOwed limit s None

-- the run may end for this cause: that is due, or there is no memory, which may be at any time
pub data MayEnd (limit : ℕ) (s : State) : Cause → Type 0 where
  as_due : (cause : Cause) → IsDue limit s (owed.End cause) → MayEnd limit s cause
  no_memory : MayEnd limit s Memory

-- what an event does, where it may come: a turn where it is due, and the end where the run may end. After the end no event comes.
pub data Steps (setting : Setting) (limit : ℕ) (old : Standing) : Event → Standing → Type 0 where
  turned : (given kept : ℕ) (new : State) → old.ending ≡ None → IsDue limit old.state owed.Turn → IsTurn setting old.state new given kept
      → Steps setting limit old (event.Turn given kept) (record { state = new; ending = None })
  ended : (cause : Cause) → old.ending ≡ None → MayEnd limit old.state cause
      → Steps setting limit old (event.Ended cause) (record { state = old.state; ending = Some cause })

-- the journal of a run from the start of the search to where it stands
pub data IsRun (setting : Setting) (limit : ℕ) (hypotheses : List Tree) : List Event → Standing → Type 0 where
  started : (s : State) → IsStart setting hypotheses s → IsRun setting limit hypotheses [] (record { state = s; ending = None })
  went_on : (journal : List Event) (old : Standing) (e : Event) (new : Standing) → IsRun setting limit hypotheses journal old → Steps setting limit old e new
      → IsRun setting limit hypotheses (journal ++ e ∷ []) new
