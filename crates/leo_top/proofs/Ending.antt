-- The causes of the answers.
use Rattle.std.proofs.Common.{◌≡◌, ℕ, ◌⊎◌, Bool, true, false, if◌then◌else◌, List, [], ◌∷◌, map, Option, inl, inr, refl, sym, ap, subst, ◌∙◌}
use Rattle.std.specs.List.{concat}
use Rattle.leo_q0.specs.Connectives.{false_term}
use Rattle.leo_q0.specs.Derivations.{Derives}
use Rattle.leo_problem.specs.declared.refusal.LoadRefusal.TheVariants.{Refused}
use Rattle.leo_problem.specs.declared.refusal.What.{What}
use Rattle.leo_problem.specs.declared.refusal.What.TheVariants as what
use Rattle.leo_problem.specs.Theories.{Theory, Answer, refused}
use Rattle.leo_problem.specs.Loading.{ProblemOf, theory_of}
use Rattle.leo_problem.specs.Laws.{AreTold, IsUnread, unreadable, OneProblem}
use Rattle.leo_core.specs.declared.event.Cause.{Cause}
use Rattle.leo_core.specs.declared.settings.Settings.{Settings}
use Rattle.leo_core.specs.Books.{Pages}
use Rattle.leo_top.specs.declared.status.Status.{Status}
use Rattle.leo_top.specs.declared.status.Status.TheVariants.{Theorem, Unsatisfiable, GaveUp, SyntaxError, TypeError, InputError, UsageError, OSError, WriteFault, MemoryOut, Shown}
use Rattle.leo_top.specs.Refusals.{refused_status}
use Rattle.clap.specs.Words.{Kinds, fault_of}
use Rattle.leo_command.specs.declared.leo3.Search.{Search}
use Rattle.leo_command.specs.Commands.{IsRequest, leo3_app}
use Rattle.leo_top.specs.Answers.{AnswersRun, by_win, by_limit, by_exhaustion, AnswersProblem, by_run, by_refusal, IsExcused, AnswersFile, by_files, AnswersCall, by_usage, by_request, by_problem, by_memory, by_no_memory, file_of, root_of, settings_of, IsNoCommand, IsCommand, IsWritten, whole, cut, IsAnswered, IsGiven, IsExact, IsRefutable, IsUnreadable, IsFault, os_error, write_fault, memory_out}
use Rattle.leo_top.proofs.Answering.{same_settings}

-- what a problem can be answered with
abbrev IsOfProblem : Status → Type 0
IsOfProblem UsageError = ⊥
IsOfProblem WriteFault = ⊥
IsOfProblem MemoryOut = ⊥
IsOfProblem Shown = ⊥
IsOfProblem _ = Unit {0}

-- what a refused problem can be answered with
abbrev IsOfRefusal : Status → Type 0
IsOfRefusal SyntaxError = Unit {0}
IsOfRefusal TypeError = Unit {0}
IsOfRefusal InputError = Unit {0}
IsOfRefusal OSError = Unit {0}
IsOfRefusal _ = ⊥

-- the status of a refutation, with a conjecture or without
abbrev status_by : Bool → Status
status_by c = if c then Theorem else Unsatisfiable

of_refusal : (s : Status) → IsOfRefusal s → IsOfProblem s
of_refusal Theorem h = tt
of_refusal Unsatisfiable h = tt
of_refusal GaveUp h = tt
of_refusal SyntaxError h = tt
of_refusal TypeError h = tt
of_refusal InputError h = tt
of_refusal UsageError h = h
of_refusal OSError h = tt
of_refusal WriteFault h = h
of_refusal MemoryOut h = h
of_refusal Shown h = h

of_what : (w : What) → IsOfRefusal (refused_status w)
of_what what.Includes = tt
of_what what.ReadFault = tt
of_what what.Large = tt
of_what what.Lexical = tt
of_what what.Deep = tt
of_what (what.Unsupported f) = tt
of_what what.Syntax = tt
of_what what.Role = tt
of_what what.Conjectures = tt
of_what what.Twice = tt
of_what what.Unknown = tt
of_what what.WrongType = tt
of_what what.Free = tt

of_status : (c : Bool) → IsOfProblem (status_by c)
of_status true = tt
of_status false = tt

of_run : {file : List ℕ} {p : Pages} {cause : Cause} {s : Status} {lines : List (List ℕ)} → AnswersRun file p cause s lines → IsOfProblem s
of_run {p = p} (by_win about steps is d) = of_status p.problem.conjecture
of_run (by_limit about is) = tt
of_run (by_exhaustion about is) = tt

of_problem : {file : List ℕ} {settings : Settings} {a : Answer} {s : Status} {lines : List (List ℕ)} → AnswersProblem file settings a s lines → IsOfProblem s
of_problem (by_run r h) = of_run h
of_problem (by_refusal {what = w}) = of_refusal (refused_status w) (of_what w)

not_of_problem : {s t : Status} → IsOfProblem s → s ≡ t → IsOfProblem t
not_of_problem {s} {t} h e = subst IsOfProblem e h

os_other : (c : Bool) → status_by c ≡ OSError → ⊥
os_other true e = cc
os_other false e = cc

run_other : {file : List ℕ} {p : Pages} {cause : Cause} {s : Status} {lines : List (List ℕ)} → AnswersRun file p cause s lines → s ≡ OSError → ⊥
run_other {p = p} (by_win about steps is d) e = os_other p.problem.conjecture e
run_other (by_limit about is) e = cc
run_other (by_exhaustion about is) e = cc

of_file : {file : List ℕ} {root : Option (List ℕ)} {settings : Settings} {told : List ℕ → Option (List ℕ)} {fb fn : ℕ} {failed : Option (List ℕ)} {t : Status} {lines : List (List ℕ)} →
    AnswersFile file root settings told fb fn failed t lines → IsOfProblem t
of_file (by_files p x a) = of_problem a

module _ {words : List (List ℕ)} {told : List ℕ → Option (List ℕ)} {fb fn : ℕ} {failed : Option (List ℕ)} where
  unread_row : {s : Search} {about : List ℕ} {byte : ℕ} (w : What) → IsCommand words s → ProblemOf told (file_of s) (root_of s) (refused (Refused about byte w)) → IsExcused fb fn failed (refused (Refused about byte w)) →
      refused_status w ≡ OSError → IsUnreadable words told fb fn failed
  unread_row what.Includes c p x e = absurd cc
  unread_row {s} {about} {byte} what.ReadFault c p x e = record { search = s; about = about; byte = byte; command = c; said = p; risen = x.0; failed_is = x.1 }
  unread_row what.Large c p x e = absurd cc
  unread_row what.Lexical c p x e = absurd cc
  unread_row what.Deep c p x e = absurd cc
  unread_row (what.Unsupported f) c p x e = absurd cc
  unread_row what.Syntax c p x e = absurd cc
  unread_row what.Role c p x e = absurd cc
  unread_row what.Conjectures c p x e = absurd cc
  unread_row what.Twice c p x e = absurd cc
  unread_row what.Unknown c p x e = absurd cc
  unread_row what.WrongType c p x e = absurd cc
  unread_row what.Free c p x e = absurd cc

  unread_problem : {s : Search} {a : Answer} {t : Status} {lines : List (List ℕ)} → IsCommand words s → ProblemOf told (file_of s) (root_of s) a → IsExcused fb fn failed a →
      AnswersProblem (file_of s) (settings_of s) a t lines → t ≡ OSError → IsUnreadable words told fb fn failed
  unread_problem c p x (by_run r h) e = absurd (run_other h e)
  unread_problem c p x (by_refusal {what = w}) e = unread_row w c p x e

  unread_file : {s : Search} {t : Status} {lines : List (List ℕ)} → IsCommand words s → AnswersFile (file_of s) (root_of s) (settings_of s) told fb fn failed t lines → t ≡ OSError → IsUnreadable words told fb fn failed
  unread_file c (by_files p x a) e = unread_problem c p x a e

  pub usage_cause : {s : Status} {lines : List (List ℕ)} → AnswersCall words told fb fn failed s lines → s ≡ UsageError → IsNoCommand words
  usage_cause (by_usage n) e = n
  usage_cause (by_request r) e = absurd cc
  usage_cause (by_problem c a) e = absurd (not_of_problem (of_file a) e)
  usage_cause (by_memory c m) e = absurd cc
  usage_cause by_no_memory e = absurd cc

  pub no_command_cause : {s : Status} {lines : List (List ℕ)} → AnswersCall words told fb fn failed s lines → ((search : Search) → ¬ IsCommand words search) → (s ≡ UsageError) ⊎ ((s ≡ Shown) ⊎ IsFault s)
  no_command_cause (by_usage n) e = inl refl
  no_command_cause (by_request r) e = inr (inl refl)
  no_command_cause (by_problem {s = search} c a) e = absurd (e search c)
  no_command_cause (by_memory c m) e = inr (inr memory_out)
  no_command_cause by_no_memory e = inr (inr memory_out)

  pub shown_cause : {s : Status} {lines : List (List ℕ)} → AnswersCall words told fb fn failed s lines → s ≡ Shown → IsRequest (fault_of leo3_app words)
  shown_cause (by_usage n) e = absurd cc
  shown_cause (by_request r) e = r
  shown_cause (by_problem c a) e = absurd (not_of_problem (of_file a) e)
  shown_cause (by_memory c m) e = absurd cc
  shown_cause by_no_memory e = absurd cc

  pub read_fault_cause : {s : Status} {lines : List (List ℕ)} → AnswersCall words told fb fn failed s lines → s ≡ OSError → IsUnreadable words told fb fn failed
  read_fault_cause (by_usage n) e = absurd cc
  read_fault_cause (by_request r) e = absurd cc
  read_fault_cause (by_problem c a) e = unread_file c a e
  read_fault_cause (by_memory c m) e = absurd cc
  read_fault_cause by_no_memory e = absurd cc

  pub no_write_fault : {s : Status} {lines : List (List ℕ)} → AnswersCall words told fb fn failed s lines → s ≡ WriteFault → ⊥
  no_write_fault (by_usage n) e = cc
  no_write_fault (by_request r) e = cc
  no_write_fault (by_problem c a) e = not_of_problem (of_file a) e
  no_write_fault (by_memory c m) e = cc
  no_write_fault by_no_memory e = cc

one_status : (b c : Bool) → status_by b ≡ status_by c → b ≡ c
one_status true true e = refl
one_status true false e = absurd cc
one_status false true e = absurd cc
one_status false false e = refl

gave_up_other : (c : Bool) → GaveUp ≡ status_by c → ⊥
gave_up_other true e = cc
gave_up_other false e = cc

no_refusal : (c : Bool) → IsOfRefusal (status_by c) → ⊥
no_refusal true h = h
no_refusal false h = h

-- a run whose answer is that of a refutation was won
refuted_run : {file : List ℕ} {p : Pages} {cause : Cause} {s : Status} {lines : List (List ℕ)} (c : Bool) → AnswersRun file p cause s lines → s ≡ status_by c →
    (p.problem.conjecture ≡ c) × Derives (map (λ h. h.formula) (theory_of p.problem).hypotheses) false_term
refuted_run {p = p} c (by_win about steps is d) e = (one_status p.problem.conjecture c e, d.falsity)
refuted_run c (by_limit about is) e = absurd (gave_up_other c e)
refuted_run c (by_exhaustion about is) e = absurd (gave_up_other c e)

module _ {words : List (List ℕ)} {told : List ℕ → Option (List ℕ)} where
  refuted_problem : {search : Search} {a : Answer} {s : Status} {lines : List (List ℕ)} (c : Bool) → IsCommand words search → ProblemOf told (file_of search) (root_of search) a → AnswersProblem (file_of search) (settings_of search) a s lines → s ≡ status_by c →
      IsRefutable words told c
  refuted_problem {search} c k p (by_run {t = t} r h) e =
      let q = refuted_run c h e in
      let P : Theory → Type 0 = λ u. Derives (map (λ h. h.formula) u.hypotheses) false_term in
      record {
        search = search;
        theory = t;
        command = k;
        said = p;
        conjecture_is = ap (λ (u : Theory). u.conjecture) (sym r.theory_is) ∙ q.0;
        derived = subst P r.theory_is q.1;
      }
  refuted_problem c k p (by_refusal {what = w}) e = absurd (no_refusal c (let P : Status → Type 0 = IsOfRefusal in subst P e (of_what w)))

not_of_status : (c : Bool) (s : Status) → (IsOfProblem s → ⊥) → s ≡ status_by c → ⊥
not_of_status c s n e = n (let P : Status → Type 0 = IsOfProblem in subst P (sym e) (of_status c))

pub refuted_cause : {words : List (List ℕ)} {told : List ℕ → Option (List ℕ)} {fb fn : ℕ} {failed : Option (List ℕ)} {s : Status} {lines : List (List ℕ)} (c : Bool) →
    AnswersCall words told fb fn failed s lines → s ≡ status_by c → IsRefutable words told c
refuted_cause c (by_usage n) e = absurd (not_of_status c UsageError (λ h. h) e)
refuted_cause c (by_request r) e = absurd (not_of_status c Shown (λ h. h) e)
refuted_cause c (by_problem k (by_files p x a)) e = refuted_problem c k p a e
refuted_cause c (by_memory k m) e = absurd (not_of_status c MemoryOut (λ h. h) e)
refuted_cause c by_no_memory e = absurd (not_of_status c MemoryOut (λ h. h) e)

-- the status is the text's, or the sink failed
pub written_status : {text : List ℕ} {before now : Option (List ℕ)} {Failed : Type 0} {due status : Status} →
    IsWritten text before now Failed due status → (status ≡ due) ⊎ ((status ≡ WriteFault) × Failed)
written_status (whole e) = inl refl
written_status (cut c f) = inr (refl, f)

given_or_cut : {text : List ℕ} {before now : Option (List ℕ)} {Failed : Type 0} {due status : Status} →
    IsWritten text before now Failed due status → IsGiven text before now due status ⊎ IsFault status
given_or_cut (whole e) = inl (record { taken = e; same = refl })
given_or_cut (cut c f) = inr write_fault

fault_stays : {text : List ℕ} {before now : Option (List ℕ)} {Failed : Type 0} {due status : Status} →
    IsWritten text before now Failed due status → IsFault due → IsFault status
fault_stays (whole e) f = f
fault_stays (cut c e) f = write_fault

unread_status : {file : List ℕ} {settings : Settings} {a : Answer} {s : Status} {lines : List (List ℕ)} → AnswersProblem file settings a s lines → IsUnread a → s ≡ OSError
unread_status (by_run r h) u = absurd u
unread_status by_refusal unreadable = refl

module _ {before now : Option (List ℕ)} {Failed : Type 0} {status : Status} where
  -- an answer to what the files say was written whole, unless a fault stood in the way
  same_problem : {file : List ℕ} {settings : Settings} {a : Answer} {due : Status} {lines : List (List ℕ)} (said : Answer) → IsWritten (concat lines) before now Failed due status → AnswersProblem file settings a due lines →
      IsUnread a ⊎ (a ≡ said) → IsExact file settings said before now status ⊎ IsFault status
  same_problem said w b (inl u) = inr (fault_stays w (let P : Status → Type 0 = IsFault in subst P (sym (unread_status b u)) os_error))
  same_problem {file} {settings} {a} {due} {lines} said w b (inr e) =
      let P : Answer → Type 0 = λ x. AnswersProblem file settings x due lines in
      elim (given_or_cut w) [
        | inl g ↦ inl (record { due = due; lines = lines; answers = subst P e b; given = g })
        | inr f ↦ inr f
      ]

cut_fault : {status : Status} → status ≡ WriteFault → IsFault status
cut_fault e = let P : Status → Type 0 = IsFault in subst P (sym e) write_fault

-- words that are taken ask for no text
no_request : (words : List (List ℕ)) (s : Search) → IsCommand words s → IsRequest (fault_of leo3_app words) → ⊥
no_request words s c r = none (fault_of leo3_app words) c.asked.taken r
  where
    none : (kinds : Kinds) → kinds ≡ [] → IsRequest kinds → ⊥
    none [] e (inl h) = h
    none [] e (inr h) = h
    none (k ∷ ks) e h = cc

-- two searches that the same words ask for have one file and one root
same_file : (words : List (List ℕ)) (s u : Search) → IsCommand words s → IsCommand words u → file_of s ≡ file_of u
same_file words s u c d = let k = sym c.asked.found.file ∙ d.asked.found.file in cc

same_root : (words : List (List ℕ)) (s u : Search) → IsCommand words s → IsCommand words u → root_of s ≡ root_of u
same_root words s u c d = sym c.asked.found.root ∙ d.asked.found.root

module _ {told : List ℕ → Option (List ℕ)} {fb fn : ℕ} {failed before now : Option (List ℕ)} {Failed : Type 0} {status : Status} where
  exact_file : {due : Status} {lines : List (List ℕ)} (file other : List ℕ) (root root' : Option (List ℕ)) (settings settings' : Settings) → OneProblem → (said : Answer) → other ≡ file → root' ≡ root → settings' ≡ settings →
      AnswersFile other root' settings' told fb fn failed due lines → IsWritten (concat lines) before now Failed due status →
      AreTold told file root → ProblemOf told file root said → ¬ IsUnread said → IsExact file settings said before now status ⊎ IsFault status
  exact_file {due} {lines} file other root root' settings settings' problems said same_name same_folder same_choice (by_files {answer = got} q x b) w known p u =
      let P : List ℕ → Type 0 = λ f. AnswersProblem f settings' got due lines in
      let O : Settings → Type 0 = λ s. AnswersProblem file s got due lines in
      let Q : List ℕ → Type 0 = λ f. ProblemOf told f root' got in
      let R : Option (List ℕ) → Type 0 = λ r. ProblemOf told file r got in
      same_problem said w (subst O same_choice (subst P same_name b)) (problems told file root got said known (subst R same_folder (subst Q same_name q)) p u)

module _ {words : List (List ℕ)} {told : List ℕ → Option (List ℕ)} {fb fn : ℕ} {failed before now : Option (List ℕ)} {Failed : Type 0} {status : Status} where
  exact_by : {due : Status} {lines : List (List ℕ)} → OneProblem → (search : Search) (said : Answer) → AnswersCall words told fb fn failed due lines → IsWritten (concat lines) before now Failed due status →
      IsCommand words search → AreTold told (file_of search) (root_of search) → ProblemOf told (file_of search) (root_of search) said → ¬ IsUnread said → IsExact (file_of search) (settings_of search) said before now status ⊎ IsFault status
  exact_by problems search said (by_usage n) w command known p u = absurd (n.no_search search command)
  exact_by problems search said (by_request r) w command known p u = absurd (no_request words search command r)
  exact_by problems search said (by_memory c m) w command known p u = inr (fault_stays w memory_out)
  exact_by problems search said by_no_memory w command known p u = inr (fault_stays w memory_out)
  exact_by problems search said (by_problem {s = other} c b) w command known p u =
      exact_file (file_of search) (file_of other) (root_of search) (root_of other) (settings_of search) (settings_of other) problems said (same_file words other search c command) (same_root words other search c command) (same_settings words other search c.asked command.asked) b w known p u

  pub answered_exact : OneProblem → IsAnswered words told fb fn failed before now Failed status → (search : Search) (said : Answer) →
      IsCommand words search → AreTold told (file_of search) (root_of search) → ProblemOf told (file_of search) (root_of search) said → ¬ IsUnread said → IsExact (file_of search) (settings_of search) said before now status ⊎ IsFault status
  answered_exact problems a search said command known p u = exact_by problems search said a.answers a.written command known p u

  answered_refuted : (c : Bool) → IsAnswered words told fb fn failed before now Failed status → status ≡ status_by c → IsRefutable words told c
  answered_refuted c a e = elim (written_status a.written) [
    | inl same ↦ refuted_cause c a.answers (sym same ∙ e)
    | inr w ↦ absurd (not_of_status c WriteFault (λ h. h) (sym w.0 ∙ e))
  ]

  pub answered_theorem : IsAnswered words told fb fn failed before now Failed status → status ≡ Theorem → IsRefutable words told true
  answered_theorem a e = answered_refuted true a e

  pub answered_unsatisfiable : IsAnswered words told fb fn failed before now Failed status → status ≡ Unsatisfiable → IsRefutable words told false
  answered_unsatisfiable a e = answered_refuted false a e

  pub answered_usage : IsAnswered words told fb fn failed before now Failed status → status ≡ UsageError → IsNoCommand words
  answered_usage a e = elim (written_status a.written) [
    | inl same ↦ usage_cause a.answers (sym same ∙ e)
    | inr w ↦ let k = sym w.0 ∙ e in absurd cc
  ]

  pub answered_shown : IsAnswered words told fb fn failed before now Failed status → status ≡ Shown → IsRequest (fault_of leo3_app words)
  answered_shown a e = elim (written_status a.written) [
    | inl same ↦ shown_cause a.answers (sym same ∙ e)
    | inr w ↦ let k = sym w.0 ∙ e in absurd cc
  ]

  pub answered_no_command : IsAnswered words told fb fn failed before now Failed status → ((search : Search) → ¬ IsCommand words search) → (status ≡ UsageError) ⊎ ((status ≡ Shown) ⊎ IsFault status)
  answered_no_command a none = elim (written_status a.written) [
    | inl same ↦ elim (no_command_cause a.answers none) [
      | inl usage ↦ inl (same ∙ usage)
      | inr (inl shown) ↦ inr (inl (same ∙ shown))
      | inr (inr fault) ↦ inr (inr (fault_stays a.written fault))
    ]
    | inr w ↦ inr (inr (cut_fault w.0))
  ]

  pub answered_read_fault : IsAnswered words told fb fn failed before now Failed status → status ≡ OSError → IsUnreadable words told fb fn failed
  answered_read_fault a e = elim (written_status a.written) [
    | inl same ↦ read_fault_cause a.answers (sym same ∙ e)
    | inr w ↦ let k = sym w.0 ∙ e in absurd cc
  ]

  pub answered_write_fault : IsAnswered words told fb fn failed before now Failed status → status ≡ WriteFault → Failed
  answered_write_fault a e = elim (written_status a.written) [
    | inl same ↦ absurd (no_write_fault a.answers (sym same ∙ e))
    | inr w ↦ w.1
  ]
