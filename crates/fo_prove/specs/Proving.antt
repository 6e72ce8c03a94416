-- What the child prover reads, writes and ends with.
use Rattle.std.specs.Prelude.{ℕ, ◌≡◌, Bool, List, Option}
use Rattle.fo_text.specs.declared.problem.FoProblem.{FoProblem}
use Rattle.fo_text.specs.declared.answer.FoAnswer.{FoAnswer}
use Rattle.fo_text.specs.declared.answer.FoEnd.{FoEnd}
use Rattle.fo_text.specs.declared.answer.FoEnd.TheVariants as end
use Rattle.fo_text.specs.AnswerSpellings.{answer_text, beats_text}
use Rattle.fo_text.specs.Problems.{IsProblem}
use Rattle.fo_text.specs.Spellings.{problem_text}
use Rattle.fo_text.specs.Texts.{IsProblemText}
use Rattle.fo_text.specs.Refusals.{IsFirstBad}
use Rattle.fo_super.specs.Turns.{Search}
use Rattle.fo_prove.specs.declared.status.FoStatus.{FoStatus}
use Rattle.fo_prove.specs.declared.status.FoStatus.TheVariants as status
use Rattle.fo_prove.specs.Reading.{IsRead}
use Rattle.fo_prove.specs.Writing.{IsTaken, IsCut}
use Rattle.fo_prove.specs.Answers.{beats_of, HasRoom, IsRun, IsChildRun}

-- the exit code of a program that ends so
abbrev pub code_of : FoStatus → ℕ
code_of status.Refuted = 0
code_of status.GaveUp = 1
code_of (status.Bad byte) = 2
code_of status.ReadFault = 4
code_of status.WriteFault = 5
code_of status.NoMemory = 6

-- the status of an answer that is written whole
abbrev pub status_of : FoEnd → FoStatus
status_of end.GaveUp = status.GaveUp
status_of (end.Refuted steps) = status.Refuted

-- what is written in answer to a problem: an answer whole; or a part of it, or of the beats of a run, where the sink failed; or
-- the beats of a run so far, where memory is wanting
pub data IsWorked (p : FoProblem) (before now : Option (List ℕ)) (Failed : Type 0) : FoStatus → Type 0 where
  answered : (a : FoAnswer) → IsChildRun p a → IsTaken (answer_text a) before now → IsWorked p before now Failed (status_of a.end)
  cut_answer : (a : FoAnswer) → IsChildRun p a → IsCut (answer_text a) before now → Failed → IsWorked p before now Failed status.WriteFault
  cut_beats : (s : Search) → IsRun p s → HasRoom s → IsCut (beats_text (beats_of s)) before now → Failed → IsWorked p before now Failed status.WriteFault
  no_memory : (s : Search) → IsRun p s → HasRoom s → IsTaken (beats_text (beats_of s)) before now → IsWorked p before now Failed status.NoMemory

-- the answer to a text: nothing where it is no problem text, or no memory was found to read it
pub data IsAnswered (text : List ℕ) (before now : Option (List ℕ)) (Failed : Type 0) : FoStatus → Type 0 where
  bad : (byte : ℕ) → IsFirstBad IsProblemText text byte → now ≡ before → IsAnswered text before now Failed (status.Bad byte)
  unread : now ≡ before → IsAnswered text before now Failed status.NoMemory
  worked : {s : FoStatus} (p : FoProblem) → IsProblem p → text ≡ problem_text p → IsWorked p before now Failed s → IsAnswered text before now Failed s

-- the whole call: nothing is written where the source failed, or no memory was found for what it gave
pub data IsProved (told_before told_now : Option (List ℕ)) (has_ended : Bool) (SourceFailed : Type 0) (before now : Option (List ℕ)) (SinkFailed : Type 0) : FoStatus → Type 0 where
  read_fault : SourceFailed → now ≡ before → IsProved told_before told_now has_ended SourceFailed before now SinkFailed status.ReadFault
  no_memory : now ≡ before → IsProved told_before told_now has_ended SourceFailed before now SinkFailed status.NoMemory
  read : {s : FoStatus} (text : List ℕ) → IsRead told_before told_now has_ended text → IsAnswered text before now SinkFailed s →
      IsProved told_before told_now has_ended SourceFailed before now SinkFailed s
