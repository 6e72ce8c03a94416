-- What a run writes.
use Rattle.std.proofs.Common.{ℕ, suc, ◌≡◌, ◌-◌, ◌/◌, ◌%◌, ◌≤◌, List, Option, refl, sym, ap, subst, ◌∙◌, arith}
use Rattle.std.specs.Prelude.{MatchOption, codes}
use Rattle.leo_edge.specs.Outside.{HasRisen}
use Rattle.fo_text.specs.declared.problem.FoProblem.{FoProblem}
use Rattle.fo_text.specs.declared.answer.FoEnd.{FoEnd}
use Rattle.fo_text.specs.declared.answer.FoEnd.TheVariants as end
use Rattle.fo_text.specs.AnswerSpellings.{answer_text, beats_text, beat_word, end_text}
use Rattle.fo_super.specs.Turns.{Search, IsTurn}
use Rattle.fo_prove.specs.declared.status.FoStatus.{FoStatus}
use Rattle.fo_prove.specs.declared.status.FoStatus.TheVariants as status
use Rattle.fo_prove.specs.Answers.{with_beats, HasRoom, beats_of, turned, IsGoing, IsEnding, IsChildRun, without_room as ends_without_room}
use Rattle.fo_prove.specs.Endings.{IsPut, whole, cut, IsBeat, none_due, taken, cut_off, without_room, IsSoFar, IsEndOf}
use Rattle.fo_prove.specs.Proving.{IsWorked, answered, cut_answer, cut_beats, no_memory, status_of}
use Rattle.fo_prove.specs.Writing.{IsTaken, IsCut}
use Rattle.fo_prove.proofs.Beating.{one_more_beat, room_of, of_room, same_tenth, next_tenth, taken_behind, cut_behind}

-- the end of an answer is put behind the beats
pub end_put : (p : FoProblem) (b : ℕ) (e : FoEnd) (before mid now : Option (List ℕ)) (Failed : Type 0) (due s : FoStatus) (text : List ℕ) → IsChildRun p (with_beats b e) → text ≡ end_text e →
    due ≡ status_of e → IsTaken (beats_text b) before mid → IsPut text due mid now Failed s → IsWorked p before now Failed s
end_put p b e before mid now Failed due s text r is same t (whole w) =
    let all : IsTaken (answer_text (with_beats b e)) before now = taken_behind (beats_text b) (end_text e) before mid now t (subst (λ z. IsTaken z mid now) is w) in
    subst (λ u. IsWorked p before now Failed u) (sym same) (answered (with_beats b e) r all)
end_put p b e before mid now Failed due s text r is same t (cut c f) =
    cut_answer (with_beats b e) r (cut_behind (beats_text b) (end_text e) before mid now t (subst (λ z. IsCut z mid now) is c)) f

pub ended : {p : FoProblem} {s : Search} {st r : FoStatus} {text : List ℕ} {Failed : Type 0} (before mid now : Option (List ℕ)) → IsSoFar p s before mid → IsEndOf p s st text → IsPut text st mid now Failed r →
    IsWorked p before now Failed r
ended {p} {s} {st} {r} {text} {Failed} before mid now so e put =
    end_put p (beats_of s) e.end before mid now Failed st r text (record { last = s; run = so.run; ending = e.ending }) e.text_is e.status_is so.taken put

pub wants_memory : {p : FoProblem} {s : Search} {Failed : Type 0} (before now : Option (List ℕ)) → IsSoFar p s before now → IsWorked p before now Failed status.NoMemory
wants_memory {p} {s} before now so = no_memory s so.run so.room so.taken

pub advanced : {p : FoProblem} {old new : Search} {Failed : Type 0} {r : Option FoStatus} (before mid now : Option (List ℕ)) → IsSoFar p old before mid → IsGoing p old → IsTurn p old new → IsBeat new.turns mid now Failed r →
    MatchOption r (IsSoFar p new before now) (IsWorked p before now Failed)
advanced {p} {old} {new} {Failed} before mid now so going turn (none_due other same) =
    let t = turn.turns in
    let beats : beats_of new ≡ beats_of old = ap (λ k. k / 10) t ∙ same_tenth old.turns (λ h. other (ap (λ k. k % 10) t ∙ h)) in
    let le = of_room old so.room in
    record {
      run = turned so.run going turn;
      room = room_of new (omega (arith, beats, le));
      turns = omega (arith, t, going.turns_left);
      taken = rw (beats, same) so.taken;
    }
advanced {p} {old} {new} {Failed} before mid now so going turn (taken e le w) =
    let t = turn.turns in
    let beats : beats_of new ≡ suc (beats_of old) = ap (λ k. k / 10) t ∙ next_tenth old.turns (ap (λ k. k % 10) (sym t) ∙ e) in
    record {
      run = turned so.run going turn;
      room = room_of new le;
      turns = omega (arith, t, going.turns_left);
      taken = subst (λ z. IsTaken z before now) (one_more_beat (beats_of old) ∙ ap beats_text (sym beats)) (taken_behind (beats_text (beats_of old)) beat_word before mid now so.taken w);
    }
advanced {p} {old} {new} {Failed} before mid now so going turn (cut_off e le c f) =
    let t = turn.turns in
    let beats : beats_of new ≡ suc (beats_of old) = ap (λ k. k / 10) t ∙ next_tenth old.turns (ap (λ k. k % 10) (sym t) ∙ e) in
    cut_beats new (turned so.run going turn) (room_of new le)
    (subst (λ z. IsCut z before now) (one_more_beat (beats_of old) ∙ ap beats_text (sym beats)) (cut_behind (beats_text (beats_of old)) beat_word before mid now so.taken c)) f
advanced {p} {old} {new} {Failed} before mid now so going turn (without_room {s} e gt put) =
    let t = turn.turns in
    let beats : beats_of new ≡ suc (beats_of old) = ap (λ k. k / 10) t ∙ next_tenth old.turns (ap (λ k. k % 10) (sym t) ∙ e) in
    let none : HasRoom new → ⊥ = λ h. (let le = of_room new h in omega (arith, le, gt)) in
    let less : beats_of new - 1 ≡ beats_of old = omega (arith, beats) in
    let ending : IsEnding p new (with_beats (beats_of old) end.GaveUp) = subst (λ b. IsEnding p new (with_beats b end.GaveUp)) less (ends_without_room none) in
    end_put p (beats_of old) end.GaveUp before mid now Failed status.GaveUp s (codes "gaveup\n") (record { last = new; run = turned so.run going turn; ending = ending }) refl refl so.taken put

-- the same where another fact says that the sink failed
pub worked_so : {p : FoProblem} {before now : Option (List ℕ)} {F G : Type 0} {s : FoStatus} → (F → G) → IsWorked p before now F s → IsWorked p before now G s
worked_so to (answered a r t) = answered a r t
worked_so to (cut_answer a r c f) = cut_answer a r c (to f)
worked_so to (cut_beats s r room c f) = cut_beats s r room c (to f)
worked_so to (no_memory s r room t) = no_memory s r room t

pub risen_since : (first mid now : ℕ) → first ≤ mid → HasRisen mid now → HasRisen first now
risen_since first mid now le r = omega (arith, le, r)
