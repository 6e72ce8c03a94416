-- How the answers of the parts of a check make the answer of the whole.
use Rattle.std.proofs.Common.{◌≡◌, ◌≢◌, ◌≤◌, ℕ, Bool, true, false, List, [], ◌∷◌, ◌++◌, map, Option, Some, None, Result, Ok, Err, IfOk, IfSome, codes, sym, subst, ap, refl, ◌∙◌}
use Rattle.std.specs.List.{concat}
use Rattle.std.specs.Option.{option_map}
use Rattle.leo_edge.specs.Outside.{Appends, HasRisen}
use Rattle.leo_command.specs.declared.check.Check.{Check}
use Rattle.leo_command.specs.Commands.{IsCheck}
use Rattle.leo_q0.specs.Connectives.{false_term}
use Rattle.leo_q0.specs.Derivations.{Derives}
use Rattle.leo_q0.specs.Terms.{Term}
use Rattle.leo_problem.specs.declared.loaded.Problem.{Problem}
use Rattle.leo_problem.specs.declared.refusal.LoadRefusal.{LoadRefusal}
use Rattle.leo_problem.specs.declared.refusal.LoadRefusal.TheVariants.{Refused as LoadRefused, Memory}
use Rattle.leo_problem.specs.declared.refusal.What.{What}
use Rattle.leo_problem.specs.declared.refusal.What.TheVariants.{ReadFault}
use Rattle.leo_problem.specs.Loading.{IsFault, IsProblem, ProblemOf, theory_of}
use Rattle.leo_problem.specs.Theories.{says, refused}
use Rattle.leo_problem.proofs.Assumed.{hypotheses-kept}
use Rattle.leo_top.specs.declared.check_answer.CheckAnswer.{CheckAnswer}
use Rattle.leo_top.specs.declared.check_status.CheckStatus.{CheckStatus}
use Rattle.leo_top.specs.declared.check_status.CheckStatus.TheVariants.{Accepted, OSError, WriteFault}
use Rattle.leo_top.specs.Answers.{IsMadeOf, IsCut}
use Rattle.leo_top.specs.CheckTexts.{fault_line}
use Rattle.leo_top.specs.Checking.{IsSameProblem, AnswersText, AnswersProof, by_text, by_fault, AnswersRefusal, by_unread, by_refusal, AnswersCheck, loaded, not_loaded, AnswersCheckCall, by_check, IsProvedFalse, IsPut, whole, cut, file_of, proof_of, root_of}
use Rattle.leo_top.specs.Refusals.{is_of_file}
use Rattle.leo_top.specs.Texts.{status_line, byte_line}

-- the hypotheses of a problem say the same in a bank that has grown
pub formulas-kept : {p q : Problem} → IsProblem p → IsSameProblem p q → map (λ h. h.formula) (theory_of q).hypotheses ≡ map (λ h. h.formula) (theory_of p).hypotheses
formulas-kept {p} {q} h same =
    ap (λ r. map (λ h. h.formula) (theory_of r).hypotheses) same.stays ∙ ap (map (λ h. h.formula)) (hypotheses-kept p.hyps same.grows h.closed)

pub derived-kept : {p q : Problem} → IsProblem p → IsSameProblem p q → Derives (map (λ h. h.formula) (theory_of q).hypotheses) false_term → Derives (map (λ h. h.formula) (theory_of p).hypotheses) false_term
derived-kept h same d = let P : List Term → Type 0 = λ hs. Derives hs false_term in subst P (formulas-kept h same) d

-- what holds where an answer accepts
pub accepted-weaker : {E P Q : Type 0} (r : Result CheckAnswer E) → (P → Q) → IfOk r (λ a. a.status ≡ Accepted → P) → IfOk r (λ a. a.status ≡ Accepted → Q)
accepted-weaker (Err e) f k = tt
accepted-weaker (Ok a) f k = λ e. f (k e)

-- an answer with this status and these lines
pub fixed : {E : Type 0} (Fact : CheckStatus → List (List ℕ) → Type 0) (r : Result CheckAnswer E) (s : CheckStatus) (lines : List (List ℕ)) → Fact s lines →
    IfOk r (λ a. a.status ≡ s) → IfOk r (λ a. a.text.items ≡ concat lines) → IfOk r (λ a. IsMadeOf (Fact a.status) a.text.items)
fixed Fact (Err e) s lines f is made = tt
fixed Fact (Ok a) s lines f is made =
    let P : CheckStatus → Type 0 = λ t. Fact t lines in
    record { lines = lines; holds = subst P (sym is) f; text_is = made }

-- what was fetched is the whole content, where it is told
pub content-is : {before now shown : List ℕ} {limit : ℕ} {told : Option (List ℕ)} → before ≡ [] → shown ≡ now → Appends before now limit told → IfSome told (λ w. shown ≡ w)
content-is {before} {now} {shown} {limit} {told} none same a = told-is told (same ∙ a.appended ∙ ap (λ b. b ++ a.bytes) none) a.is_told
  where
    told-is : {bytes text : List ℕ} (o : Option (List ℕ)) → text ≡ bytes → IfSome o (λ w. bytes ≡ w) → IfSome o (λ w. text ≡ w)
    told-is None e k = tt
    told-is (Some w) e k = e ∙ k

-- the answer to the text that was fetched
pub text_answered : {E : Type 0} (p : Problem) (file proof bytes : List ℕ) (content : Option (List ℕ)) (before now : ℕ) (failed : Option (List ℕ)) (r : Result CheckAnswer E) →
    IfSome content (λ w. bytes ≡ w) → IfOk r (λ a. IsMadeOf (AnswersText p bytes a.status) a.text.items) →
    IfOk r (λ a. IsMadeOf (AnswersProof p file proof content before now failed a.status) a.text.items)
text_answered p file proof bytes content before now failed (Err e) k m = tt
text_answered p file proof bytes content before now failed (Ok a) k m = record { lines = m.lines; holds = by_text k m.holds; text_is = m.text_is }

-- the answer for a text that could not be fetched
pub fetch_failed : {E : Type 0} (p : Problem) (file proof : List ℕ) (content : Option (List ℕ)) (before now : ℕ) (failed : Option (List ℕ)) (r : Result CheckAnswer E) →
    HasRisen before now → failed ≡ Some proof → IfOk r (λ a. a.status ≡ OSError) → IfOk r (λ a. a.text.items ≡ concat (fault_line ∷ [])) →
    IfOk r (λ a. IsMadeOf (AnswersProof p file proof content before now failed a.status) a.text.items)
fetch_failed p file proof content before now failed r risen last status text =
    fixed (AnswersProof p file proof content before now failed) r OSError (fault_line ∷ []) (by_fault risen last) status text

-- the lines on a text that is too large, by the names as they were shown
pub large-lines : {text file proof shown_file shown_proof : List ℕ} → shown_file ≡ file → shown_proof ≡ proof →
    text ≡ concat (status_line (codes "InputError") shown_file ∷ byte_line shown_proof 0 (codes "large") ∷ []) →
    text ≡ concat (status_line (codes "InputError") file ∷ byte_line proof 0 (codes "large") ∷ [])
large-lines {text} {file} {proof} {shown_file} {shown_proof} e f made =
    made ∙ ap (λ n. concat (status_line (codes "InputError") n ∷ byte_line shown_proof 0 (codes "large") ∷ [])) e ∙ ap (λ n. concat (status_line (codes "InputError") file ∷ byte_line n 0 (codes "large") ∷ [])) f

-- a file of the problem could not be read
pub unread_answered : {E : Type 0} (file about : List ℕ) (byte : ℕ) (what : What) (r : Result CheckAnswer E) →
    what ≡ ReadFault → IfOk r (λ a. a.status ≡ OSError) → IfOk r (λ a. a.text.items ≡ concat (fault_line ∷ [])) →
    IfOk r (λ a. IsMadeOf (AnswersRefusal file about byte what a.status) a.text.items)
unread_answered file about byte what r is status text =
    fixed (AnswersRefusal file about byte what) r OSError (fault_line ∷ []) (by_unread is) status text

pub of_file-is : (w : What) → is_of_file w ≡ true → w ≡ ReadFault
of_file-is ReadFault e = refl
of_file-is _ e = absurd (cc)

pub not_of_file : {w : What} {b : Bool} → b ≡ is_of_file w → b ≡ false → w ≡ ReadFault → ⊥
not_of_file {w} {b} is other e = (let k : is_of_file ReadFault ≡ false = ap is_of_file (sym e) ∙ sym is ∙ other in cc)

-- the answer for a problem that was loaded
pub loaded_answered : {E : Type 0} {p : Problem} {file : List ℕ} {root : Option (List ℕ)} {told : List ℕ → Option (List ℕ)} {content : Option (List ℕ)} {before between : ℕ} (proof : List ℕ) (now : ℕ) (failed : Option (List ℕ)) (r : Result CheckAnswer E) →
    IsProblem p → ProblemOf told file root (says (theory_of p)) → before ≤ between → content ≡ told proof →
    IfOk r (λ a. IsMadeOf (AnswersProof p file proof content between now failed a.status) a.text.items) →
    IfOk r (λ a. IsMadeOf (AnswersCheck file proof root told before now failed a.status) a.text.items)
loaded_answered proof now failed (Err e) h said later same m = tt
loaded_answered {E} {p} {file} {root} {told} {content} {before} {between} proof now failed (Ok a) h said later same m =
    let P : Option (List ℕ) → Type 0 = λ c. AnswersProof p file proof c between now failed a.status m.lines in
    record { lines = m.lines; holds = loaded h said later (subst P same m.holds); text_is = m.text_is }

-- the answer to a refusal of the files
pub refusal_answered : {E : Type 0} {file about shown_file shown_about : List ℕ} {root : Option (List ℕ)} {told : List ℕ → Option (List ℕ)} {byte : ℕ} {what : What} (proof : List ℕ) (before now : ℕ) (failed : Option (List ℕ)) (r : Result CheckAnswer E) (l : LoadRefusal) →
    l ≡ LoadRefused about byte what → (l ≢ Memory → ProblemOf told file root (refused l)) → IsFault before now failed l → shown_file ≡ file → shown_about ≡ about →
    IfOk r (λ a. IsMadeOf (AnswersRefusal shown_file shown_about byte what a.status) a.text.items) →
    IfOk r (λ a. IsMadeOf (AnswersCheck file proof root told before now failed a.status) a.text.items)
refusal_answered proof before now failed (Err e) l is said fault e1 e2 m = tt
refusal_answered {E} {file} {about} {shown_file} {shown_about} {root} {told} {byte} {what} proof before now failed (Ok a) l is said fault e1 e2 m =
    let no_memory : l ≢ Memory = λ k. (let j : LoadRefused about byte what ≡ Memory = sym is ∙ k in cc) in
    let P : LoadRefusal → Type 0 = λ u. ProblemOf told file root (refused u) in
    let Q : LoadRefusal → Type 0 = IsFault before now failed in
    let R : List ℕ → Type 0 = λ f. AnswersRefusal f shown_about byte what a.status m.lines in
    let S : List ℕ → Type 0 = λ f. AnswersRefusal file f byte what a.status m.lines in
    record { lines = m.lines; holds = not_loaded (subst P is (said no_memory)) (subst Q is fault) (subst S e2 (subst R e1 m.holds)); text_is = m.text_is }

-- no derivation is accepted for a problem that is refused
pub refusal_is_not_accepted : {E : Type 0} (P : Type 0) (file about : List ℕ) (byte : ℕ) (what : What) (r : Result CheckAnswer E) →
    IfOk r (λ a. IsMadeOf (AnswersRefusal file about byte what a.status) a.text.items) → IfOk r (λ a. a.status ≡ Accepted → P)
refusal_is_not_accepted P file about byte what (Err e) m = tt
refusal_is_not_accepted P file about byte what (Ok a) m = λ e. absurd (none m.holds e)
  where
    none : {s : CheckStatus} {lines : List (List ℕ)} → AnswersRefusal file about byte what s lines → s ≡ Accepted → ⊥
    none (by_unread is) e = (cc)
    none (by_refusal other) e = (cc)

-- falsity is derivable from what the files say
pub proved_false : {file : List ℕ} {root : Option (List ℕ)} {told : List ℕ → Option (List ℕ)} (p : Problem) → ProblemOf told file root (says (theory_of p)) →
    Derives (map (λ h. h.formula) (theory_of p).hypotheses) false_term → IsProvedFalse file root told
proved_false p said d = record { theory = theory_of p; said = said; derived = d }

-- the answer to a check, once words ask for it
pub asked_answered : {told : List ℕ → Option (List ℕ)} {before now : ℕ} {failed : Option (List ℕ)} {text file proof : List ℕ} {root : Option (List ℕ)} {due : CheckStatus} (check : Check) →
    file ≡ file_of check → proof ≡ proof_of check → root ≡ root_of check →
    IsMadeOf (AnswersCheck file proof root told before now failed due) text → (words : List (List ℕ)) → IsCheck words check → IsMadeOf (AnswersCheckCall words told before now failed due) text
asked_answered {told} {before} {now} {failed} {text} {file} {proof} {root} {due} check e1 e2 e3 m words c =
    let P : List ℕ → Type 0 = λ f. AnswersCheck f proof root told before now failed due m.lines in
    let Q : List ℕ → Type 0 = λ f. AnswersCheck (file_of check) f root told before now failed due m.lines in
    let R : Option (List ℕ) → Type 0 = λ r. AnswersCheck (file_of check) (proof_of check) r told before now failed due m.lines in
    record { lines = m.lines; holds = by_check c (subst R e3 (subst Q e2 (subst P e1 m.holds))); text_is = m.text_is }

pub proved-named : {told : List ℕ → Option (List ℕ)} {file : List ℕ} {root : Option (List ℕ)} (check : Check) → file ≡ file_of check → root ≡ root_of check →
    IsProvedFalse file root told → IsProvedFalse (file_of check) (root_of check) told
proved-named {told} {file} {root} check e1 e2 k =
    let P : List ℕ → Type 0 = λ f. IsProvedFalse f root told in
    let Q : Option (List ℕ) → Type 0 = λ r. IsProvedFalse (file_of check) r told in
    subst Q e2 (subst P e1 k)

-- what a sink took, by the lines of the text
pub lines_put : {text : List ℕ} (lines : List (List ℕ)) {before now : Option (List ℕ)} {Failed : Type 0} {due status : CheckStatus} → text ≡ concat lines →
    IsPut text before now Failed due status → IsPut (concat lines) before now Failed due status
lines_put lines {before = before} {now = now} {Failed = Failed} {due = due} {status = status} e w =
    let P : List ℕ → Type 0 = λ t. IsPut t before now Failed due status in
    subst P e w

pub whole_with : {text : List ℕ} {before now : Option (List ℕ)} {Failed : Type 0} {due status : CheckStatus} → status ≡ due →
    now ≡ option_map (λ bytes. bytes ++ text) before → IsPut text before now Failed due status
whole_with {text} {before} {now} {Failed} {due} {status} same taken =
    let P : CheckStatus → Type 0 = λ s. IsPut text before now Failed due s in
    subst P (sym same) (whole taken)

pub cut_with : {text : List ℕ} {before now : Option (List ℕ)} {Failed : Type 0} {due status : CheckStatus} → status ≡ WriteFault →
    IsCut text before now → Failed → IsPut text before now Failed due status
cut_with {text} {before} {now} {Failed} {due} {status} same c f =
    let P : CheckStatus → Type 0 = λ s. IsPut text before now Failed due s in
    subst P (sym same) (cut c f)

-- an answer that accepts was put whole
pub put_accepts : {text : List ℕ} {before now : Option (List ℕ)} {Failed : Type 0} {due status : CheckStatus} → IsPut text before now Failed due status → status ≡ Accepted → due ≡ Accepted
put_accepts (whole taken) e = e
put_accepts (cut c f) e = absurd (cc)

-- what was put with another status is not accepted
pub never-accepted : {text : List ℕ} {before now : Option (List ℕ)} {Failed : Type 0} {status : CheckStatus} (due : CheckStatus) → due ≢ Accepted →
    IsPut text before now Failed due status → status ≡ Accepted → ⊥
never-accepted due other put e = other (put_accepts put e)
