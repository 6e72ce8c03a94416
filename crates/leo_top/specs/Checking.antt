-- What the checker answers: for the text of a derivation, and for a call.
use Rattle.std.specs.Prelude.{◌≡◌, ℕ, ◌≤◌, ◌<◌, List, [], ◌∷◌, ◌++◌, length, map, Option, Some, codes, IfSome}
use Rattle.std.specs.Option.{option_map}
use Rattle.std.specs.List.{concat}
use Rattle.std.specs.String.{string_bytes}
use Rattle.clap.specs.Words.{fault_of}
use Rattle.leo_edge.specs.Outside.{HasRisen}
use Rattle.leo_command.specs.declared.check.Check.{Check}
use Rattle.leo_command.specs.Commands.{IsCheck, IsRequest, check_app}
use Rattle.leo_q0.specs.Connectives.{false_term}
use Rattle.leo_q0.specs.Derivations.{Derives}
use Rattle.leo_terms.specs.Contents.{Extends}
use Rattle.leo_clause.specs.declared.record.StepRecord.{StepRecord}
use Rattle.leo_kernel.specs.declared.reason.Reason.{Reason}
use Rattle.leo_kernel.specs.Steps.{line_at}
use Rattle.leo_derive.specs.Verdicts.{IsRefutation, IsRefusedAt, hypotheses_of}
use Rattle.leo_problem.specs.declared.loaded.Problem.{Problem}
use Rattle.leo_problem.specs.declared.refusal.LoadRefusal.TheVariants.{Refused as LoadRefused}
use Rattle.leo_problem.specs.declared.refusal.What.{What}
use Rattle.leo_problem.specs.declared.refusal.What.TheVariants.{ReadFault}
use Rattle.leo_problem.specs.Loading.{IsFault, IsProblem, ProblemOf, theory_of}
use Rattle.leo_problem.specs.Theories.{Theory, says, refused}
use Rattle.leo_tstp.specs.TextWords.{IsDerivationText}
use Rattle.leo_top.specs.declared.check_status.CheckStatus.{CheckStatus}
use Rattle.leo_top.specs.declared.check_status.CheckStatus.TheVariants.{Accepted, Refused, BadProof, Input, UsageError, OSError, WriteFault, MemoryOut, Shown}
use Rattle.leo_top.specs.Answers.{IsCut, status_word}
use Rattle.leo_top.specs.CheckTexts.{accepted_line, refused_line, stopped_line, fault_line, usage_line, memory_line}
use Rattle.leo_top.specs.Refusals.{refused_status}
use Rattle.leo_top.specs.Texts.{status_line, byte_line, refused_lines}

-- the exit code of a status
abbrev pub check_code : CheckStatus → ℕ
check_code Accepted = 0
check_code Refused = 1
check_code BadProof = 1
check_code Input = 2
check_code UsageError = 3
check_code OSError = 4
check_code WriteFault = 5
check_code MemoryOut = 6
check_code Shown = 0

-- the files of a check, and the folder of included files
abbrev pub file_of : Check → List ℕ
file_of c = string_bytes c.file

abbrev pub proof_of : Check → List ℕ
proof_of c = string_bytes c.proof

abbrev pub root_of : Check → Option (List ℕ)
root_of c = option_map string_bytes c.root

-- the most bytes of a derivation's text: 64 MiB
abbrev pub proof_limit : ℕ
proof_limit = 67108864

-- the same problem in a bank that may have grown
pub record IsSameProblem (p q : Problem) : Type 0 where
  pub grows : Extends p.bank q.bank
  pub stays : q ≡ record { bank = q.bank; names = p.names; hyps = p.hyps; conjecture = p.conjecture; statements = p.statements }

-- the answer to a text for a problem: its status and its lines
pub data AnswersText (p : Problem) (bytes : List ℕ) : CheckStatus → List (List ℕ) → Type 0 where
  accepts : {q : Problem} {steps : List StepRecord} → IsSameProblem p q → IsDerivationText q bytes steps → IsRefutation (hypotheses_of q) (map (line_at q.bank) steps) → AnswersText p bytes Accepted (accepted_line ∷ [])
  refuses : {q : Problem} {steps : List StepRecord} {n : ℕ} {reason : Reason} → IsSameProblem p q → IsDerivationText q bytes steps → IsRefusedAt (hypotheses_of q) (map (line_at q.bank) steps) n reason → AnswersText p bytes Refused (refused_line n reason ∷ [])
  stops : (byte : ℕ) → AnswersText p bytes BadProof (stopped_line byte ∷ [])

-- the answer for a problem and the file with the derivation's text, by the content of that file where it is told, and the
-- counts of faults and the last failure of the files
pub data AnswersProof (p : Problem) (file proof : List ℕ) (content : Option (List ℕ)) (before now : ℕ) (failed : Option (List ℕ)) : CheckStatus → List (List ℕ) → Type 0 where
  by_text : {bytes : List ℕ} {status : CheckStatus} {lines : List (List ℕ)} → IfSome content (λ whole. bytes ≡ whole) → AnswersText p bytes status lines → AnswersProof p file proof content before now failed status lines
  by_length : IfSome content (λ whole. proof_limit < length whole) → AnswersProof p file proof content before now failed Input (status_line (codes "InputError") file ∷ byte_line proof 0 (codes "large") ∷ [])
  by_fault : HasRisen before now → failed ≡ Some proof → AnswersProof p file proof content before now failed OSError (fault_line ∷ [])

-- the answer where the problem is refused
pub data AnswersRefusal (file about : List ℕ) (byte : ℕ) (what : What) : CheckStatus → List (List ℕ) → Type 0 where
  by_unread : what ≡ ReadFault → AnswersRefusal file about byte what OSError (fault_line ∷ [])
  by_refusal : (what ≡ ReadFault → ⊥) → AnswersRefusal file about byte what Input (refused_lines (status_word (refused_status what)) file about byte what)

-- the answer to a check
pub data AnswersCheck (file proof : List ℕ) (root : Option (List ℕ)) (told : List ℕ → Option (List ℕ)) (before now : ℕ) (failed : Option (List ℕ)) : CheckStatus → List (List ℕ) → Type 0 where
  loaded : {p : Problem} {between : ℕ} {status : CheckStatus} {lines : List (List ℕ)} → IsProblem p → ProblemOf told file root (says (theory_of p)) → before ≤ between → AnswersProof p file proof (told proof) between now failed status lines → AnswersCheck file proof root told before now failed status lines
  not_loaded : {about : List ℕ} {byte : ℕ} {what : What} {status : CheckStatus} {lines : List (List ℕ)} → ProblemOf told file root (refused (LoadRefused about byte what)) → IsFault before now failed (LoadRefused about byte what) → AnswersRefusal file about byte what status lines → AnswersCheck file proof root told before now failed status lines

-- the files of the problem say a theory from whose hypotheses falsity is derivable in Q0 with choice
pub record IsProvedFalse (file : List ℕ) (root : Option (List ℕ)) (told : List ℕ → Option (List ℕ)) : Type 0 where
  pub theory : Theory
  pub said : ProblemOf told file root (says theory)
  pub derived : Derives (map (λ h. h.formula) theory.hypotheses) false_term

-- the words ask for no check, and for no text
pub record IsNoCheck (words : List (List ℕ)) : Type 0 where
  pub no_check : (c : Check) → ¬ IsCheck words c

-- the answer to a call: its status and its lines
pub data AnswersCheckCall (words : List (List ℕ)) (told : List ℕ → Option (List ℕ)) (before now : ℕ) (failed : Option (List ℕ)) : CheckStatus → List (List ℕ) → Type 0 where
  by_usage : IsNoCheck words → AnswersCheckCall words told before now failed UsageError (usage_line ∷ [])
  by_request : {text : List ℕ} → IsRequest (fault_of check_app words) → AnswersCheckCall words told before now failed Shown (text ∷ [])
  by_check : {c : Check} {status : CheckStatus} {lines : List (List ℕ)} → IsCheck words c → AnswersCheck (file_of c) (proof_of c) (root_of c) told before now failed status lines → AnswersCheckCall words told before now failed status lines
  by_memory : AnswersCheckCall words told before now failed MemoryOut (memory_line ∷ [])

-- what a sink took of a text: all of it, and then the status is the text's; or a part, where the sink failed
pub data IsPut (text : List ℕ) (before now : Option (List ℕ)) (Failed : Type 0) (status : CheckStatus) : CheckStatus → Type 0 where
  whole : now ≡ option_map (λ bytes. bytes ++ text) before → IsPut text before now Failed status status
  cut : IsCut text before now → Failed → IsPut text before now Failed status WriteFault

-- what a call answers: some answer to these words and files, put whole or cut where the sink failed
pub record IsChecked (words : List (List ℕ)) (told : List ℕ → Option (List ℕ)) (faults_before faults_now : ℕ) (failed : Option (List ℕ)) (before now : Option (List ℕ)) (Failed : Type 0) (status : CheckStatus) : Type 0 where
  pub due : CheckStatus
  pub lines : List (List ℕ)
  pub answers : AnswersCheckCall words told faults_before faults_now failed due lines
  pub put : IsPut (concat lines) before now Failed due status

-- that holds of the problem that the words name
pub record IsRefuted (words : List (List ℕ)) (told : List ℕ → Option (List ℕ)) : Type 0 where
  pub check : Check
  pub command : IsCheck words check
  pub refuted : IsProvedFalse (file_of check) (root_of check) told
