-- What the prover answers: for what the files of a problem say, and for a call.
use Rattle.std.specs.Prelude.{◌≡◌, ◌⊎◌, ℕ, ◌<◌, Bool, List, [], ◌∷◌, ◌++◌, length, map, take, Option, Some, MatchOption, codes, if◌then◌else◌}
use Rattle.std.specs.Option.{option_map}
use Rattle.std.specs.List.{concat}
use Rattle.std.specs.String.{string_bytes}
use Rattle.clap.specs.Words.{fault_of}
use Rattle.leo_edge.specs.Outside.{HasRisen}
use Rattle.leo_command.specs.declared.leo3.Search.{Search}
use Rattle.leo_command.specs.Commands.{IsMistake, IsRequest, IsSearch, leo3_app}
use Rattle.leo_q0.specs.Connectives.{false_term}
use Rattle.leo_q0.specs.Derivations.{Derives}
use Rattle.leo_clause.specs.declared.record.StepRecord.{StepRecord}
use Rattle.leo_kernel.specs.Records.{AreStepsOf}
use Rattle.leo_kernel.specs.Steps.{line_at}
use Rattle.leo_problem.specs.declared.refusal.LoadRefusal.TheVariants.{Refused}
use Rattle.leo_problem.specs.declared.refusal.What.{What}
use Rattle.leo_problem.specs.declared.refusal.What.TheVariants.{ReadFault}
use Rattle.leo_problem.specs.Generating.{IsFileName, IsGenerator}
use Rattle.leo_problem.specs.Theories.{Theory, Answer, says, refused}
use Rattle.leo_problem.specs.Loading.{ProblemOf, theory_of}
use Rattle.leo_problem.specs.Loading as loading
use Rattle.leo_derive.specs.Pruning.{IsPruned}
use Rattle.leo_derive.specs.Verdicts.{IsRefutation, hypotheses_of}
use Rattle.leo_core.specs.declared.event.Cause.{Cause}
use Rattle.leo_core.specs.declared.event.Cause.TheVariants.{Won, Limit, Exhausted}
use Rattle.leo_core.specs.declared.settings.Settings.{Settings}
use Rattle.leo_core.specs.Naming.{AreNameable}
use Rattle.leo_core.specs.Books.{Pages, IsBook, lines_of, standing_of}
use Rattle.leo_tstp.specs.Derivations.{printed}
use Rattle.leo_top.specs.declared.status.Status.{Status}
use Rattle.leo_top.specs.declared.status.Status.TheVariants.{Theorem, Unsatisfiable, GaveUp, SyntaxError, TypeError, InputError, UsageError, OSError, WriteFault, MemoryOut, Shown}
use Rattle.leo_top.specs.Refusals.{refused_status}
use Rattle.leo_top.specs.Texts.{status_line, about_lines, refuted_lines, limit_lines, exhausted_lines, refused_lines}

-- the word of a status, after the SZS ontology; a text that was asked for has no status line
abbrev pub status_word : Status → List ℕ
status_word Theorem = codes "Theorem"
status_word Unsatisfiable = codes "Unsatisfiable"
status_word GaveUp = codes "GaveUp"
status_word SyntaxError = codes "SyntaxError"
status_word TypeError = codes "TypeError"
status_word InputError = codes "InputError"
status_word UsageError = codes "UsageError"
status_word OSError = codes "OSError"
status_word WriteFault = codes "WriteFault"
status_word MemoryOut = codes "MemoryOut"
status_word Shown = codes "Shown"

-- the exit code of a status
abbrev pub code_of : Status → ℕ
code_of Theorem = 0
code_of Unsatisfiable = 0
code_of GaveUp = 1
code_of SyntaxError = 2
code_of TypeError = 2
code_of InputError = 2
code_of UsageError = 3
code_of OSError = 4
code_of WriteFault = 5
code_of MemoryOut = 6
code_of Shown = 0

-- the words ask for this search, without child provers: none are run yet
pub record IsCommand (words : List (List ℕ)) (s : Search) : Type 0 where
  pub asked : IsSearch words s
  pub alone : s.settings.children ≡ 0

-- the file of a search, and the folder of included files
abbrev pub file_of : Search → List ℕ
file_of s = string_bytes s.file

abbrev pub root_of : Search → Option (List ℕ)
root_of s = option_map string_bytes s.root

-- the settings of its run
abbrev pub settings_of : Search → Settings
settings_of s = record { turns = s.settings.turns; depth = s.settings.depth; weight = s.settings.weight }

-- the words ask for no such search, and for no text
pub record IsNoCommand (words : List (List ℕ)) : Type 0 where
  pub no_search : (s : Search) → ¬ IsCommand words s
  pub no_request : IsMistake (fault_of leo3_app words) ⊎ (fault_of leo3_app words ≡ [])

-- the status of a refutation: the conjecture follows, or what is assumed has no model
abbrev pub refuted_status : Bool → Status
refuted_status conjectured = if conjectured then Theorem else Unsatisfiable

-- whether the file's name stands for a generated problem, and for which
abbrev pub IsAbout : List ℕ → Option ℕ → Type 0
IsAbout file about = MatchOption about (IsFileName file) (IsGenerator file)

-- a derivation of falsity from the problem of a book: its lines are lines of the search, pruned; they are accepted, and one
-- of them is empty; so falsity is derivable in Q0 with choice from the problem's hypotheses. Where files say the problem, the lines
-- are nameable by its atoms
pub record IsDerivationOf (p : Pages) (steps : List StepRecord) : Type 0 where
  pub are_steps : AreStepsOf p.problem.bank steps
  pub pruned : IsPruned (lines_of p) (map (line_at p.problem.bank) steps)
  pub refutation : IsRefutation (hypotheses_of p.problem) (map (line_at p.problem.bank) steps)
  pub falsity : Derives (map (λ h. h.formula) (theory_of p.problem).hypotheses) false_term
  pub nameable : (told : List ℕ → Option (List ℕ)) (name : List ℕ) (root : Option (List ℕ)) → ProblemOf told name root (says (theory_of p.problem))
      → AreNameable (theory_of p.problem).declared (map (line_at p.problem.bank) steps)

-- the book of a run of this theory by these settings, which ended for that cause
pub record IsRunEnded (t : Theory) (settings : Settings) (p : Pages) (cause : Cause) : Type 0 where
  pub book : IsBook p
  pub theory_is : theory_of p.problem ≡ t
  pub settings_are : p.settings ≡ settings
  pub ended : p.ending ≡ Some cause

-- the answer to a run that ended for that cause: its status and its lines
pub data AnswersRun (file : List ℕ) (p : Pages) : Cause → Status → List (List ℕ) → Type 0 where
  by_win : (about : Option ℕ) (steps : List StepRecord) → IsAbout file about → IsDerivationOf p steps →
      AnswersRun file p Won (refuted_status p.problem.conjecture)
      (refuted_lines (status_word (refuted_status p.problem.conjecture)) file (about_lines about p.problem.statements) (printed p.problem steps))
  by_limit : (about : Option ℕ) → IsAbout file about →
      AnswersRun file p Limit GaveUp (limit_lines (status_word GaveUp) file (about_lines about p.problem.statements) p.settings.turns)
  by_exhaustion : (about : Option ℕ) → IsAbout file about →
      AnswersRun file p Exhausted GaveUp (exhausted_lines (status_word GaveUp) file (about_lines about p.problem.statements) (standing_of p).state.turns)

-- the answer to what the files of a problem say, for a search by these settings: its status and its lines
pub data AnswersProblem (file : List ℕ) (settings : Settings) : Answer → Status → List (List ℕ) → Type 0 where
  by_run : {t : Theory} {p : Pages} {cause : Cause} {status : Status} {lines : List (List ℕ)} → IsRunEnded t settings p cause →
      AnswersRun file p cause status lines → AnswersProblem file settings (says t) status lines
  by_refusal : {about : List ℕ} {byte : ℕ} {what : What} →
      AnswersProblem file settings (refused (Refused about byte what)) (refused_status what) (refused_lines (status_word (refused_status what)) file about byte what)

-- the files say so, and they may: a file is unreadable only where the count of faults rose, and the fetch of that file failed last
abbrev pub IsExcused : ℕ → ℕ → Option (List ℕ) → Answer → Type 0
IsExcused before now failed (says t) = Unit {0}
IsExcused before now failed (refused r) = loading.IsFault before now failed r

-- the answer to the problem of a file, with a folder of included files, by these settings: its status and its lines
pub data AnswersFile (file : List ℕ) (root : Option (List ℕ)) (settings : Settings) (told : List ℕ → Option (List ℕ)) (before now : ℕ) (failed : Option (List ℕ)) :
    Status → List (List ℕ) → Type 0 where
  by_files : {answer : Answer} {status : Status} {lines : List (List ℕ)} → ProblemOf told file root answer → IsExcused before now failed answer →
      AnswersProblem file settings answer status lines → AnswersFile file root settings told before now failed status lines

-- the lines that say that no memory was found: for the file, or for the program
pub data SaysNoMemory (file : List ℕ) : List (List ℕ) → Type 0 where
  for_file : SaysNoMemory file (status_line (status_word MemoryOut) file ∷ [])
  for_program : SaysNoMemory file (status_line (status_word MemoryOut) (codes "leo3") ∷ [])

-- the answer to a call: its status and its lines, by the words, the contents that are told, and the counts of faults
-- and the last failure of the files
pub data AnswersCall (words : List (List ℕ)) (told : List ℕ → Option (List ℕ)) (before now : ℕ) (failed : Option (List ℕ)) :
    Status → List (List ℕ) → Type 0 where
  by_usage : IsNoCommand words → AnswersCall words told before now failed UsageError (status_line (status_word UsageError) (codes "leo3") ∷ [])
  by_request : {text : List ℕ} → IsRequest (fault_of leo3_app words) → AnswersCall words told before now failed Shown (text ∷ [])
  by_problem : {s : Search} {status : Status} {lines : List (List ℕ)} → IsCommand words s →
      AnswersFile (file_of s) (root_of s) (settings_of s) told before now failed status lines → AnswersCall words told before now failed status lines
  by_memory : {s : Search} {lines : List (List ℕ)} → IsCommand words s → SaysNoMemory (file_of s) lines → AnswersCall words told before now failed MemoryOut lines
  by_no_memory : AnswersCall words told before now failed MemoryOut (status_line (status_word MemoryOut) (codes "leo3") ∷ [])

-- a sink took a part of the text, and not all of it
pub record IsCut (text : List ℕ) (before now : Option (List ℕ)) : Type 0 where
  pub count : ℕ
  pub short : count < length text
  pub taken : now ≡ option_map (λ bytes. bytes ++ take count text) before

-- the text is made of lines of which the fact holds
pub record IsMadeOf (Fact : List (List ℕ) → Type 0) (text : List ℕ) : Type 0 where
  pub lines : List (List ℕ)
  pub holds : Fact lines
  pub text_is : text ≡ concat lines

-- what a sink took of a text: all of it, and then the status is the text's; or a part, where the sink failed
pub data IsWritten (text : List ℕ) (before now : Option (List ℕ)) (Failed : Type 0) (status : Status) : Status → Type 0 where
  whole : now ≡ option_map (λ bytes. bytes ++ text) before → IsWritten text before now Failed status status
  cut : IsCut text before now → Failed → IsWritten text before now Failed status WriteFault

-- what a call answers: some answer to these words and files, written whole or cut where the sink failed
pub record IsAnswered (words : List (List ℕ)) (told : List ℕ → Option (List ℕ)) (faults_before faults_now : ℕ) (failed : Option (List ℕ))
    (before now : Option (List ℕ)) (Failed : Type 0) (status : Status) : Type 0 where
  pub due : Status
  pub lines : List (List ℕ)
  pub answers : AnswersCall words told faults_before faults_now failed due lines
  pub written : IsWritten (concat lines) before now Failed due status

-- the whole text was taken, and the status is the text's
pub record IsGiven (text : List ℕ) (before now : Option (List ℕ)) (due status : Status) : Type 0 where
  pub taken : now ≡ option_map (λ bytes. bytes ++ text) before
  pub same : status ≡ due

-- an answer to what the files say was written whole
pub record IsExact (file : List ℕ) (settings : Settings) (said : Answer) (before now : Option (List ℕ)) (status : Status) : Type 0 where
  pub due : Status
  pub lines : List (List ℕ)
  pub answers : AnswersProblem file settings said due lines
  pub given : IsGiven (concat lines) before now due status

-- the files of the problem that the words name say a theory, with a conjecture or without, and falsity is derivable in Q0
-- with choice from what it assumes
pub record IsRefutable (words : List (List ℕ)) (told : List ℕ → Option (List ℕ)) (conjectured : Bool) : Type 0 where
  pub search : Search
  pub theory : Theory
  pub command : IsCommand words search
  pub said : ProblemOf told (file_of search) (root_of search) (says theory)
  pub conjecture_is : theory.conjecture ≡ conjectured
  pub derived : Derives (map (λ h. h.formula) theory.hypotheses) false_term

-- a file that the problem asks for could not be read: the count of faults rose, and its fetch failed last
pub record IsUnreadable (words : List (List ℕ)) (told : List ℕ → Option (List ℕ)) (before now : ℕ) (failed : Option (List ℕ)) : Type 0 where
  pub search : Search
  pub about : List ℕ
  pub byte : ℕ
  pub command : IsCommand words search
  pub said : ProblemOf told (file_of search) (root_of search) (refused (Refused about byte ReadFault))
  pub risen : HasRisen before now
  pub failed_is : failed ≡ Some about

-- answers that come for a cause outside the file
pub data IsFault : Status → Type 0 where
  os_error : IsFault OSError
  write_fault : IsFault WriteFault
  memory_out : IsFault MemoryOut
