-- The end of an answer, and the beats before it.
use Rattle.std.specs.Prelude.{ℕ, ◌≡◌, ◌<◌, ◌≤◌, ◌/◌, ◌%◌, List, length, codes, Option, Some, None, slice_get}
use Rattle.fo_text.specs.declared.problem.FoClause.{FoClause}
use Rattle.fo_text.specs.declared.problem.FoProblem.{FoProblem}
use Rattle.fo_text.specs.declared.answer.FoEnd.{FoEnd}
use Rattle.fo_text.specs.AnswerSpellings.{end_text, beat_word, beats_text}
use Rattle.fo_super.specs.declared.state.FoState.{FoState}
use Rattle.fo_super.specs.Runs.{search_of}
use Rattle.fo_super.specs.Turns.{Search}
use Rattle.fo_prove.specs.declared.status.FoStatus.{FoStatus}
use Rattle.fo_prove.specs.declared.status.FoStatus.TheVariants as status
use Rattle.fo_prove.specs.Answers.{beats_of, with_beats, HasRoom, IsEmptyClause, IsRun, IsEnding}
use Rattle.fo_prove.specs.Marks.{AreEarlier}
use Rattle.fo_prove.specs.Proving.{status_of}
use Rattle.fo_prove.specs.Writing.{IsTaken, IsCut}

-- each kept clause has its origin, whose parents come before it
pub record IsSound (s : FoState) : Type 0 where
  pub counted : length s.origins ≡ length s.clauses
  pub earlier : AreEarlier (search_of s).origins
  pub text : length s.problem.clauses < 4294967295

-- none of the first clauses, so many, is empty
pub record HasNoEmptyBefore (n : ℕ) (cs : List FoClause) : Type 0 where
  pub within : n ≤ length cs
  pub none : (m : ℕ) (k : FoClause) → m < n → slice_get cs m ≡ Some k → IsEmptyClause k → ⊥

-- the end of the answer of a run that ends in this state
pub record IsEndOf (p : FoProblem) (s : Search) (st : FoStatus) (text : List ℕ) : Type 0 where
  pub end : FoEnd
  pub ending : IsEnding p s (with_beats (beats_of s) end)
  pub text_is : text ≡ end_text end
  pub status_is : st ≡ status_of end

-- the end is put, whole or cut where the sink failed
pub data IsPut (text : List ℕ) (due : FoStatus) (before now : Option (List ℕ)) (Failed : Type 0) : FoStatus → Type 0 where
  whole : IsTaken text before now → IsPut text due before now Failed due
  cut : IsCut text before now → Failed → IsPut text due before now Failed status.WriteFault

-- the beat that is due after so many turns
pub data IsBeat (turns : ℕ) (before now : Option (List ℕ)) (Failed : Type 0) : Option FoStatus → Type 0 where
  none_due : (turns % 10 ≡ 0 → ⊥) → now ≡ before → IsBeat turns before now Failed None
  taken : turns % 10 ≡ 0 → turns / 10 ≤ 524284 → IsTaken beat_word before now → IsBeat turns before now Failed None
  cut_off : turns % 10 ≡ 0 → turns / 10 ≤ 524284 → IsCut beat_word before now → Failed → IsBeat turns before now Failed (Some status.WriteFault)
  without_room : {s : FoStatus} → turns % 10 ≡ 0 → 524284 < turns / 10 → IsPut (codes "gaveup\n") status.GaveUp before now Failed s → IsBeat turns before now Failed (Some s)

-- a run as far as this state, with its beats
pub record IsSoFar (p : FoProblem) (s : Search) (before now : Option (List ℕ)) : Type 0 where
  pub run : IsRun p s
  pub room : HasRoom s
  pub turns : s.turns ≤ p.turns
  pub taken : IsTaken (beats_text (beats_of s)) before now
