-- The lines of clauses, clause by clause.
use Rattle.std.proofs.Common.{ℕ, zero, suc, ◌≡◌, ◌+◌, ◌-◌, ◌<◌, Bool, true, false, List, [], ◌∷◌, ◌++◌, length, map, drop, Some, sym, ap, subst, ◌∙◌, append_assoc, length-append, arith}
use Rattle.std.specs.Prelude.{slice_index}
use Rattle.std.specs.List.{slice_get}
use Rattle.std.proofs.lemmas.List.{append-nil}
use Rattle.fo_terms.specs.Terms.{Terms, variable}
use Rattle.fo_terms.specs.Prefix.{prefix_of_all}
use Rattle.fo_text.specs.declared.answer.FoStep.{FoStep}
use Rattle.fo_text.specs.declared.answer.FoWord.{FoWord}
use Rattle.fo_text.specs.declared.answer.FoWord.TheVariants as word
use Rattle.fo_replay.specs.Replays.{node_as_word}
use Rattle.fo_super.specs.Members.{Member}
use Rattle.fo_super.specs.Conclusions.{images_from, line_count, lines}
use Rattle.fo_super.specs.Turns.{Origin, given, concluded}
use Rattle.fo_prove.specs.Refutations.{AreLines, RestsOn}
use Rattle.fo_prove.specs.Refutations as refutation
use Rattle.fo_prove.specs.Marks.{Adds, AreNeeded, of_text, left_out, written}

abbrev own_text : ℕ → ℕ → List FoWord
own_text v k = map node_as_word (prefix_of_all (images_from (λ v. variable v) v k))

pub variable_pushed : (words new start : List FoWord) (v w n : ℕ) → v < n → w ≡ suc v → new ≡ words ++ word.Var v ∷ [] →
    words ++ own_text v (n - v) ≡ start → new ++ own_text w (n - w) ≡ start
variable_pushed words new start v w n less ew e h =
    let back : n - v ≡ suc (n - w) = omega (arith, less, ew) in
    let all : words ++ word.Var v ∷ own_text (suc v) (n - w) ≡ start = subst (λ k. words ++ own_text v k ≡ start) back h in
    let moved : words ++ word.Var v ∷ own_text w (n - w) ≡ start = subst (λ u. words ++ word.Var v ∷ own_text u (n - w) ≡ start) (sym ew) all in
    ap (λ ws. ws ++ own_text w (n - w)) e ∙ (append_assoc words (word.Var v ∷ []) (own_text w (n - w)) ∙ moved)

pub added_text : (literals : ℕ → ℕ) (mark : Bool) (next : ℕ) (last new : List ℕ) (steps : List FoStep) (n : ℕ) → n ≡ length last → new ≡ last ++ n ∷ [] →
    Adds literals given mark next last steps next new steps
added_text literals mark next last new steps n e f =
    let P : List ℕ → Type 0 = λ l. Adds literals given mark next last steps next l steps in
    subst P (sym (f ∙ ap (λ k. last ++ k ∷ []) e)) of_text

pub added_member : (literals : ℕ → ℕ) (m : Member) (vars : List ℕ) (terms : Terms) (next then k : ℕ) (last new : List ℕ) (steps more all : List FoStep) →
    more ≡ lines (slice_index last) literals next m vars terms → then ≡ next + k → k ≡ line_count m → new ≡ last ++ (then - 1) ∷ [] → all ≡ steps ++ more →
    Adds literals (concluded m vars terms) true next last steps then new all
added_member literals m vars terms next then k last new steps more all a b c d e = rw (e, a, d, b, c) written

pub length_added : {literals : ℕ → ℕ} {o : Origin} {b : Bool} {next then : ℕ} {last new : List ℕ} {steps all : List FoStep} → Adds literals o b next last steps then new all →
    length new ≡ suc (length last)
length_added {literals} {o} {b} {next} {then} {last} of_text = length-append last _ ∙ (omega arith)
length_added {literals} {o} {b} {next} {then} {last} left_out = length-append last _ ∙ (omega arith)
length_added {literals} {o} {b} {next} {then} {last} written = length-append last _ ∙ (omega arith)

pub from_here : {X : Type 0} (xs : List X) (n : ℕ) (x : X) → slice_get xs n ≡ Some x → drop n xs ≡ x ∷ drop (suc n) xs
from_here [] n x e = absurd cc
from_here (y ∷ ys) zero x e = (let h : y ≡ x = cc in ap (λ z. z ∷ ys) h)
from_here (y ∷ ys) (suc n) x e = from_here ys n x e

pub line_added : {literals : ℕ → ℕ} {o : Origin} {b : Bool} {next then : ℕ} {last new : List ℕ} {steps all : List FoStep} → Adds literals o b next last steps then new all →
    (os : List Origin) (e n first : ℕ) (marks : List Bool) → slice_get os n ≡ Some o → slice_get marks n ≡ Some b → length last ≡ n → AreNeeded os e marks →
    ((rest : List FoStep) → AreLines (RestsOn os e) literals next last (drop n os) rest → AreLines (RestsOn os e) literals first [] os (steps ++ rest)) →
    (rest : List FoStep) → AreLines (RestsOn os e) literals then new (drop (suc n) os) rest → AreLines (RestsOn os e) literals first [] os (all ++ rest)
line_added {literals} {o} {b} {next} {then} {last} {new} {steps} {all} of_text os e n first marks at mark len needed before rest ls =
    before rest (rw (from_here os n o at) (refutation.of_text ls))
line_added {literals} {o} {b} {next} {then} {last} {new} {steps} {all} left_out os e n first marks at mark len needed before rest ls =
    let none : RestsOn os e (length last) → ⊥ = λ r. (let h : slice_get marks n ≡ Some true = subst (λ k. slice_get marks k ≡ Some true) len (needed.whole (length last) r) in cc) in
    before rest (rw (from_here os n o at) (refutation.left_out none ls))
line_added {literals} {o} {b} {next} {then} {last} {new} {steps} {all} (written {m = m} {vars = vars} {terms = terms}) os e n first marks at mark len needed before rest ls =
    let r : RestsOn os e (length last) = subst (λ k. RestsOn os e k) (sym len) (needed.sound n mark) in
    let more = lines (slice_index last) literals next m vars terms in
    subst (λ s. AreLines (RestsOn os e) literals first [] os s) (sym (append_assoc steps more rest))
    (before (more ++ rest) (rw (from_here os n o at) (refutation.written r ls)))

pub line_added_at : {literals : ℕ → ℕ} {o : Origin} {b : Bool} {next then : ℕ} {last new : List ℕ} {steps all : List FoStep} → Adds literals o b next last steps then new all →
    (os : List Origin) (e n n' first : ℕ) (marks : List Bool) → n' ≡ suc n → slice_get os n ≡ Some o → slice_get marks n ≡ Some b → length last ≡ n → AreNeeded os e marks →
    ((rest : List FoStep) → AreLines (RestsOn os e) literals next last (drop n os) rest → AreLines (RestsOn os e) literals first [] os (steps ++ rest)) →
    (rest : List FoStep) → AreLines (RestsOn os e) literals then new (drop n' os) rest → AreLines (RestsOn os e) literals first [] os (all ++ rest)
line_added_at {literals} {o} {b} {next} {then} {last} {new} adds os e n n' first marks is at mark len needed before rest ls =
    line_added adds os e n first marks at mark len needed before rest (subst (λ k. AreLines (RestsOn os e) literals then new (drop k os) rest) is ls)

pub left_out_of : (literals : ℕ → ℕ) (m : Member) (vars : List ℕ) (terms : Terms) (next : ℕ) (last new : List ℕ) (steps : List FoStep) → new ≡ last ++ 0 ∷ [] →
    Adds literals (concluded m vars terms) false next last steps next new steps
left_out_of literals m vars terms next last new steps e = rw e left_out

pub lines_done : {literals : ℕ → ℕ} {next first : ℕ} {last : List ℕ} {steps : List FoStep} (N : ℕ → Type 0) (os back : List Origin) → back ≡ [] →
    ((rest : List FoStep) → AreLines N literals next last back rest → AreLines N literals first [] os (steps ++ rest)) → AreLines N literals first [] os steps
lines_done {literals} {next} {first} {last} {steps} N os back e before =
    subst (λ s. AreLines N literals first [] os s) (append-nil steps) (before [] (rw e refutation.no_more))
