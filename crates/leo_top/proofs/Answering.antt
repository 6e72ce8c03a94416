-- How the answers of the parts make the answer of the whole.
use Rattle.std.proofs.Common.{◌≡◌, ◌≢◌, ◌≤◌, ◌⊎◌, inr, arith, ℕ, List, [], ◌∷◌, ◌++◌, append_assoc, Option, Some, None, Result, Ok, Err, IfOk, codes, refl, ap, sym, subst, ◌∙◌}
use Rattle.std.specs.Option.{option_map}
use Rattle.std.specs.List.{concat}
use Rattle.std.proofs.lemmas.Fmt.{decimal_injective}
use Rattle.std.proofs.lemmas.List.{append-nil}
use Rattle.std.proofs.lemmas.List.Folds.{concat-append}
use Rattle.std.specs.Prelude.{IsSomeAnd}
use Rattle.clap.specs.Words.{fault_of, first_of, matches_of}
use Rattle.leo_command.specs.declared.leo3.Search.{Search}
use Rattle.leo_command.specs.Commands.{IsMistake, IsNumberWord, IsSearch, leo3_app}
use Rattle.leo_clause.specs.declared.record.StepRecord.{StepRecord}
use Rattle.leo_core.specs.declared.event.Cause.{Cause}
use Rattle.leo_core.specs.declared.event.Cause.TheVariants.{Won, Limit, Exhausted}
use Rattle.leo_core.specs.declared.settings.Settings.{Settings}
use Rattle.leo_core.specs.Books.{Pages, standing_of}
use Rattle.leo_core.specs.Limits.{AreSettings}
use Rattle.leo_tstp.specs.Derivations.{printed}
use Rattle.leo_top.specs.declared.searching.Answer.{Answer}
use Rattle.leo_top.specs.declared.status.Status.{Status}
use Rattle.leo_top.specs.declared.status.Status.TheVariants.{GaveUp, WriteFault}
use Rattle.leo_problem.specs.declared.loaded.Problem.{Problem}
use Rattle.leo_problem.specs.declared.refusal.What.{What}
use Rattle.leo_problem.specs.Theories.{Theory, says, refused}
use Rattle.leo_problem.specs.Theories.{Answer as Said}
use Rattle.leo_problem.specs.Loading.{ProblemOf, IsFault}
use Rattle.leo_problem.specs.declared.refusal.LoadRefusal.{LoadRefusal}
use Rattle.leo_problem.specs.declared.refusal.LoadRefusal.TheVariants.{Refused, Memory}
use Rattle.leo_top.specs.Refusals.{refused_status}
use Rattle.leo_top.specs.Answers.{IsMadeOf, IsAbout, IsDerivationOf, IsRunEnded, AnswersRun, by_win, by_limit, by_exhaustion, by_run, AnswersProblem, AnswersFile, AnswersCall, IsExcused, by_files, by_problem, file_of, root_of, settings_of, IsNoCommand, by_refusal, refuted_status, IsCommand, IsCut, IsWritten, whole, cut, status_word}
use Rattle.leo_top.specs.Texts.{about_lines, refuted_lines, limit_lines, exhausted_lines, refused_lines}

pub made_weaker : {Fact Other : List (List ℕ) → Type 0} (text : List ℕ) → ((lines : List (List ℕ)) → Fact lines → Other lines) → IsMadeOf Fact text →
    IsMadeOf Other text
made_weaker text f m = record { lines = m.lines; holds = f m.lines m.holds; text_is = m.text_is }

-- an answer with this status and these lines
pub fixed : {E : Type 0} (Fact : Status → List (List ℕ) → Type 0) (r : Result Answer E) (s : Status) (lines : List (List ℕ)) → Fact s lines →
    IfOk r (λ a. a.status ≡ s) → IfOk r (λ a. a.text.items ≡ concat lines) → IfOk r (λ a. IsMadeOf (Fact a.status) a.text.items)
fixed Fact (Err e) s lines f is made = tt
fixed Fact (Ok a) s lines f is made =
    let P : Status → Type 0 = λ t. Fact t lines in
    record { lines = lines; holds = subst P (sym is) f; text_is = made }

pub answers_weaker : {E : Type 0} (Fact Other : Status → List (List ℕ) → Type 0) (r : Result Answer E) →
    ((s : Status) (lines : List (List ℕ)) → Fact s lines → Other s lines) →
    IfOk r (λ a. IsMadeOf (Fact a.status) a.text.items) → IfOk r (λ a. IsMadeOf (Other a.status) a.text.items)
answers_weaker Fact Other (Err e) f m = tt
answers_weaker Fact Other (Ok a) f m = made_weaker a.text.items (f a.status) m

-- an answer to a run that ended
pub run_made : {file : List ℕ} {settings : Settings} {t : Theory} {p : Pages} {cause : Cause} {status : Status} {text : List ℕ} → IsRunEnded t settings p cause →
    IsMadeOf (AnswersRun file p cause status) text → IsMadeOf (AnswersProblem file settings (says t) status) text
run_made r m = record { lines = m.lines; holds = by_run r m.holds; text_is = m.text_is }

-- an answer to a run that was won
pub win_made : {file : List ℕ} {p : Pages} (about : Option ℕ) (q : Problem) {steps shown : List StepRecord} {s : Status} {text : List ℕ} → IsAbout file about → IsDerivationOf p steps → q ≡ p.problem → shown ≡ steps →
    s ≡ refuted_status q.conjecture → text ≡ concat (refuted_lines (status_word s) file (about_lines about q.statements) (printed q shown)) → IsMadeOf (AnswersRun file p Won s) text
win_made {file} {p} about q {steps} {shown} {s} {text} is d same all status made =
    let P : Status → Type 0 = λ t. AnswersRun file p Won t (refuted_lines (status_word t) file (about_lines about p.problem.statements) (printed p.problem steps)) in
    let e : s ≡ refuted_status p.problem.conjecture = status ∙ ap (λ (r : Problem). refuted_status r.conjecture) same in
    record {
      lines = _;
      holds = subst P (sym e) (by_win about steps is d);
      text_is = made ∙ ap (λ (r : Problem). concat (refuted_lines (status_word s) file (about_lines about r.statements) (printed r shown))) same
          ∙ ap (λ (x : List StepRecord). concat (refuted_lines (status_word s) file (about_lines about p.problem.statements) (printed p.problem x))) all;
    }

-- an answer to a run that ended at its limit of turns
pub limit_made : {file : List ℕ} {p : Pages} (about : Option ℕ) (q : Problem) {limit : ℕ} {text : List ℕ} → IsAbout file about → q ≡ p.problem → p.settings.turns ≡ limit →
    text ≡ concat (limit_lines (status_word GaveUp) file (about_lines about q.statements) limit) → IsMadeOf (AnswersRun file p Limit GaveUp) text
limit_made {file} {p} about q {limit} is same settings made = record {
  lines = _;
  holds = by_limit about is;
  text_is = made ∙ ap (λ (r : Problem). concat (limit_lines (status_word GaveUp) file (about_lines about r.statements) limit)) same
      ∙ ap (λ n. concat (limit_lines (status_word GaveUp) file (about_lines about p.problem.statements) n)) (sym settings);
}

-- an answer to a run that ended with no clause left
pub end_made : {file : List ℕ} {p : Pages} (about : Option ℕ) (q : Problem) {turns : ℕ} {text : List ℕ} → IsAbout file about → q ≡ p.problem → turns ≡ (standing_of p).state.turns →
    text ≡ concat (exhausted_lines (status_word GaveUp) file (about_lines about q.statements) turns) → IsMadeOf (AnswersRun file p Exhausted GaveUp) text
end_made {file} {p} about q {turns} is same count made = record {
  lines = _;
  holds = by_exhaustion about is;
  text_is = made ∙ ap (λ (r : Problem). concat (exhausted_lines (status_word GaveUp) file (about_lines about r.statements) turns)) same
      ∙ ap (λ n. concat (exhausted_lines (status_word GaveUp) file (about_lines about p.problem.statements) n)) count;
}

-- lines that were appended one by one
pub pieces-joined : (opening : List (List ℕ)) (a b c : List ℕ) {t₀ t₁ t₂ t₃ t₄ : List ℕ} → t₀ ≡ [] → t₁ ≡ t₀ ++ concat opening → t₂ ≡ t₁ ++ a → t₃ ≡ t₂ ++ b → t₄ ≡ t₃ ++ c →
    t₄ ≡ concat (opening ++ a ∷ b ∷ c ∷ [])
pieces-joined opening a b c e₀ e₁ e₂ e₃ e₄ =
    rw (e₄, e₃, e₂, e₁, e₀, concat-append opening (a ∷ b ∷ c ∷ []), append-nil c, append_assoc (concat opening) a b, append_assoc (concat opening) (a ++ b) c, append_assoc a b c) refl

pub piece-joined : (opening : List (List ℕ)) (a : List ℕ) {t₀ t₁ t₂ : List ℕ} → t₀ ≡ [] → t₁ ≡ t₀ ++ concat opening → t₂ ≡ t₁ ++ a → t₂ ≡ concat (opening ++ a ∷ [])
piece-joined opening a e₀ e₁ e₂ = rw (e₂, e₁, e₀, concat-append opening (a ∷ []), append-nil a) refl

-- an answer that was written, by its lines
pub lines_written : (text : List ℕ) (lines : List (List ℕ)) (before now : Option (List ℕ)) (Failed : Type 0) (due status : Status) → text ≡ concat lines →
    IsWritten text before now Failed due status → IsWritten (concat lines) before now Failed due status
lines_written text lines before now Failed due status e w =
    let P : List ℕ → Type 0 = λ t. IsWritten t before now Failed due status in
    subst P e w

pub whole_with : {text : List ℕ} {before now : Option (List ℕ)} {Failed : Type 0} {due status : Status} → status ≡ due →
    now ≡ option_map (λ bytes. bytes ++ text) before → IsWritten text before now Failed due status
whole_with {text} {before} {now} {Failed} {due} {status} same taken =
    let P : Status → Type 0 = λ s. IsWritten text before now Failed due s in
    subst P (sym same) (whole taken)

pub cut_with : {text : List ℕ} {before now : Option (List ℕ)} {Failed : Type 0} {due status : Status} → status ≡ WriteFault →
    IsCut text before now → Failed → IsWritten text before now Failed due status
cut_with {text} {before} {now} {Failed} {due} {status} same c f =
    let P : Status → Type 0 = λ s. IsWritten text before now Failed due s in
    subst P (sym same) (cut c f)

-- an answer to what the files say
pub problem_answered : {told : List ℕ → Option (List ℕ)} {fb fn : ℕ} {failed root : Option (List ℕ)} {settings : Settings} {word file : List ℕ} {a : Said} → word ≡ file →
    ProblemOf told word root a → IsExcused fb fn failed a → (s : Status) (lines : List (List ℕ)) → AnswersProblem file settings a s lines → AnswersFile word root settings told fb fn failed s lines
problem_answered {settings = settings} {a = a} e p x s lines b = let P : List ℕ → Type 0 = λ f. AnswersProblem f settings a s lines in by_files p x (subst P (sym e) b)

-- an answer to a refusal of the files
pub refused_answered : {told : List ℕ → Option (List ℕ)} {fb fn : ℕ} {failed root : Option (List ℕ)} {settings : Settings} {word file about shown : List ℕ} {byte : ℕ} {w : What} → word ≡ file →
    (r : LoadRefusal) → r ≡ Refused about byte w → (r ≢ Memory → ProblemOf told word root (refused r)) → IsFault fb fn failed r → shown ≡ about →
    AnswersFile word root settings told fb fn failed (refused_status w) (refused_lines (status_word (refused_status w)) file shown byte w)
refused_answered {told} {fb} {fn} {failed} {root} {settings} {word} {file} {about} {shown} {byte} {w} e r q p x s =
    let no_memory : r ≢ Memory = λ m. (let k : Refused about byte w ≡ Memory = sym q ∙ m in cc) in
    let P : LoadRefusal → Type 0 = λ u. ProblemOf told word root (refused u) in
    let Q : LoadRefusal → Type 0 = IsFault fb fn failed in
    let R : List ℕ → Type 0 = λ f. AnswersFile word root settings told fb fn failed (refused_status w) (refused_lines (status_word (refused_status w)) file f byte w) in
    let done : R about = problem_answered e (subst P q (p no_memory)) (subst Q q x) _ _ by_refusal in
    subst R (sym s) done

-- the answer for a file, once words ask for it
pub asked_answered : {told : List ℕ → Option (List ℕ)} {fb fn : ℕ} {failed : Option (List ℕ)} {text file : List ℕ} {root : Option (List ℕ)} {settings : Settings} {due : Status} (search : Search) → file ≡ file_of search → root ≡ root_of search → settings ≡ settings_of search →
    IsMadeOf (AnswersFile file root settings told fb fn failed due) text → (words : List (List ℕ)) → IsCommand words search → IsMadeOf (AnswersCall words told fb fn failed due) text
asked_answered {told} {fb} {fn} {failed} {text} {file} {root} {settings} {due} search same_file same_root same_settings m words c =
    let P : List ℕ → Type 0 = λ f. AnswersFile f root settings told fb fn failed due m.lines in
    let Q : Option (List ℕ) → Type 0 = λ r. AnswersFile (file_of search) r settings told fb fn failed due m.lines in
    let R : Settings → Type 0 = λ s. AnswersFile (file_of search) (root_of search) s told fb fn failed due m.lines in
    record { lines = m.lines; holds = by_problem c (subst R same_settings (subst Q same_root (subst P same_file m.holds))); text_is = m.text_is }

-- two numbers of one word are one
same_number : (least most : ℕ) (o : Option (List ℕ)) (m n : ℕ) → most ≤ 1000000 → IsSomeAnd o (λ w. IsNumberWord w least most m) → IsSomeAnd o (λ w. IsNumberWord w least most n) → m ≡ n
same_number least most None m n l a b = absurd a
same_number least most (Some w) m n l a b =
    let to = a.to in
    let other = b.to in
    decimal_injective m n (omega arith) (omega arith) (sym a.word_is ∙ b.word_is)

number_within : (least most : ℕ) (o : Option (List ℕ)) (n : ℕ) → IsSomeAnd o (λ w. IsNumberWord w least most n) → (least ≤ n) × (n ≤ most)
number_within least most None n a = absurd a
number_within least most (Some w) n a = (a.from, a.to)

-- a search with child provers is not run
pub with_children : (words : List (List ℕ)) (s : Search) → IsSearch words s → (s.settings.children ≡ 0 → ⊥) → IsNoCommand words
with_children words s asked some = record {
  no_search = λ u c. some (same_number 0 8 (first_of (codes "children") (matches_of leo3_app words)) s.settings.children u.settings.children (omega arith) asked.found.settings.children c.asked.found.settings.children ∙ c.alone);
  no_request = inr asked.taken;
}

-- the settings of a search are in their ranges
pub settings_within : (words : List (List ℕ)) (s : Search) → IsSearch words s → AreSettings (settings_of s)
settings_within words s asked =
    let rows = matches_of leo3_app words in
    let turns = number_within 1 1000000 (first_of (codes "turns") rows) s.settings.turns asked.found.settings.turns in
    let depth = number_within 0 6 (first_of (codes "depth") rows) s.settings.depth asked.found.settings.depth in
    let weight = number_within 1 512 (first_of (codes "weight") rows) s.settings.weight asked.found.settings.weight in
    record { some_turn = turns.0; turns = turns.1; depth = depth.1; some_weight = weight.0; weight = weight.1 }

abbrev settings_by : ℕ → ℕ → ℕ → Settings
settings_by turns depth weight = record { turns = turns; depth = depth; weight = weight }

-- two searches that the same words ask for have the same settings
pub same_settings : (words : List (List ℕ)) (s u : Search) → IsSearch words s → IsSearch words u → settings_of s ≡ settings_of u
same_settings words s u a b =
    let rows = matches_of leo3_app words in
    let turns = same_number 1 1000000 (first_of (codes "turns") rows) s.settings.turns u.settings.turns (omega arith) a.found.settings.turns b.found.settings.turns in
    let depth = same_number 0 6 (first_of (codes "depth") rows) s.settings.depth u.settings.depth (omega arith) a.found.settings.depth b.found.settings.depth in
    let weight = same_number 1 512 (first_of (codes "weight") rows) s.settings.weight u.settings.weight (omega arith) a.found.settings.weight b.found.settings.weight in
    ap (λ n. settings_by n s.settings.depth s.settings.weight) turns ∙ ap (λ n. settings_by u.settings.turns n s.settings.weight) depth ∙ ap (settings_by u.settings.turns u.settings.depth) weight

-- words that are not taken are no command
pub not_taken : (words : List (List ℕ)) → ((s : Search) → ¬ IsSearch words s) → IsMistake (fault_of leo3_app words) ⊎ (fault_of leo3_app words ≡ []) → IsNoCommand words
not_taken words none why = record { no_search = λ s c. none s c.asked; no_request = why }
