-- The ends of answers.
use Rattle.std.proofs.Common.{ℕ, ◌≡◌, ◌+◌, ◌-◌, ◌*◌, ◌<◌, ◌≤◌, ◌⊎◌, List, [], ◌∷◌, length, Option, Some, None, refl, sym, ap, subst, arith}
use Rattle.std.specs.List.{slice_get}
use Rattle.std.proofs.lemmas.List.{append-nil}
use Rattle.fo_terms.specs.Terms.{Terms}
use Rattle.fo_text.specs.declared.problem.FoClause.{FoClause}
use Rattle.fo_text.specs.declared.problem.FoProblem.{FoProblem}
use Rattle.fo_text.specs.declared.answer.FoEnd.TheVariants as end
use Rattle.fo_text.specs.declared.answer.FoStep.{FoStep}
use Rattle.fo_text.specs.declared.answer.FoStep.TheVariants.{Inst}
use Rattle.fo_text.specs.AnswerSpellings.{end_text}
use Rattle.fo_replay.specs.Replays.{instance_words}
use Rattle.fo_super.specs.Members.{Member}
use Rattle.fo_super.specs.Outcomes.{IsLeast, HoldsOfNone}
use Rattle.fo_super.specs.Turns.{Search, Origin, given, concluded, start}
use Rattle.fo_prove.specs.declared.status.FoStatus.{FoStatus}
use Rattle.fo_prove.specs.declared.status.FoStatus.TheVariants as status
use Rattle.fo_prove.specs.Answers.{with_beats, HasRoom, IsWithin, beats_of, IsEmptyClause, begun, spent, too_long, refuted}
use Rattle.fo_prove.specs.Refutations.{IsRefutation, AreLines, RestsOn, literals_of, own_variables, of_text, of_lines}
use Rattle.fo_prove.specs.Endings.{IsEndOf, IsSoFar}
use Rattle.fo_prove.specs.Writing.{IsTaken}
use Rattle.fo_prove.proofs.Beating.{of_room, of_within, within_of, room_of}

pub text_refutation : (p : FoProblem) (s : Search) (e : ℕ) (c : FoClause) (steps : List FoStep) → slice_get s.origins e ≡ Some given → slice_get s.clauses e ≡ Some c →
    steps ≡ Inst e (instance_words c.vars (own_variables (length c.vars))) ∷ [] → IsRefutation p s e steps
text_refutation p s e c steps at stands is = rw is (of_text c at stands)

pub lines_refutation : (p : FoProblem) (s : Search) (e : ℕ) (m : Member) (vars : List ℕ) (terms : Terms) (clauses : List FoClause) (os : List Origin) (first : ℕ) (steps : List FoStep) →
    os ≡ s.origins → clauses ≡ s.clauses → first ≡ length p.clauses → slice_get os e ≡ Some (concluded m vars terms) → AreLines (RestsOn os e) (literals_of clauses) first [] os steps → IsRefutation p s e steps
lines_refutation p s e m vars terms clauses os first steps a b c at ls =
    of_lines m vars terms (subst (λ q. slice_get q e ≡ Some (concluded m vars terms)) a at)
    (subst (λ q. AreLines (RestsOn q e) (literals_of s.clauses) (length p.clauses) [] q steps) a
    (subst (λ q. AreLines (RestsOn os e) (literals_of q) (length p.clauses) [] os steps) b
    (subst (λ q. AreLines (RestsOn os e) (literals_of clauses) q [] os steps) c ls)))

pub refuted_end : (p : FoProblem) (s : Search) (e : ℕ) (steps : List FoStep) (text : List ℕ) → HasRoom s → IsLeast IsEmptyClause s.clauses e → IsRefutation p s e steps →
    text ≡ end_text (end.Refuted steps) → length text ≤ 1048576 - 2 * beats_of s → IsEndOf p s status.Refuted text
refuted_end p s e steps text room least r is le =
    let b = of_room s room in
    let len : length text ≡ length (end_text (end.Refuted steps)) = ap length is in
    let short : 2 * beats_of s + length (end_text (end.Refuted steps)) ≤ 1048576 = omega (arith, b, len, le) in
    record { end = end.Refuted steps; ending = refuted room least r (within_of (beats_of s) (end.Refuted steps) short); text_is = is; status_is = refl }

pub long_end : (p : FoProblem) (s : Search) (e : ℕ) (steps : List FoStep) (text : List ℕ) → HasRoom s → IsLeast IsEmptyClause s.clauses e → IsRefutation p s e steps →
    text ≡ end_text (end.Refuted steps) → 1048576 - 2 * beats_of s < length text → (st : FoStatus) (other : List ℕ) → st ≡ status.GaveUp → other ≡ end_text end.GaveUp → IsEndOf p s st other
long_end p s e steps text room least r is gt st other sa ot =
    let b = of_room s room in
    let len : length text ≡ length (end_text (end.Refuted steps)) = ap length is in
    let none : IsWithin (with_beats (beats_of s) (end.Refuted steps)) → ⊥ = λ h.
    (let w = of_within (beats_of s) (end.Refuted steps) h in omega (arith, w, b, len, gt)) in
    record { end = end.GaveUp; ending = too_long room least r none; text_is = ot; status_is = sa }

pub spent_end : (p : FoProblem) (s : Search) (st : FoStatus) (text : List ℕ) → HasRoom s → HoldsOfNone IsEmptyClause s.clauses → (s.turns ≡ p.turns) ⊎ (s.passive ≡ []) →
    st ≡ status.GaveUp → text ≡ end_text end.GaveUp → IsEndOf p s st text
spent_end p s st text room none over sa is = record { end = end.GaveUp; ending = spent room none over; text_is = is; status_is = sa }

pub taken_none : (x : Option (List ℕ)) → IsTaken [] x x
taken_none None = refl
taken_none (Some b) = ap Some (sym (append-nil b))

pub started : (p : FoProblem) (s : Search) (x : Option (List ℕ)) → s ≡ start p → IsSoFar p s x x
started p s x e = rw e (record { run = begun; room = room_of (start p) (omega arith); turns = omega arith; taken = taken_none x })
