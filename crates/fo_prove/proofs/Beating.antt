-- The lengths of answers and their beats.
use Rattle.std.proofs.Common.{ℕ, zero, suc, ◌≡◌, ◌+◌, ◌*◌, ◌/◌, ◌%◌, ◌≤◌, List, ◌++◌, length, take, Option, Some, None, refl, sym, ap, subst, ◌∙◌, append_assoc, length-append, arith}
use Rattle.std.specs.Option.{option_map}
use Rattle.std.proofs.Math.Seq.{take-append-add}
use Rattle.fo_text.specs.declared.answer.FoEnd.{FoEnd}
use Rattle.fo_text.specs.declared.answer.FoEnd.TheVariants.{GaveUp}
use Rattle.fo_text.specs.AnswerSpellings.{answer_text, beats_text, beat_word, end_text}
use Rattle.fo_super.specs.Turns.{Search}
use Rattle.fo_prove.specs.Answers.{with_beats, IsWithin, HasRoom, beats_of}
use Rattle.fo_prove.specs.Writing.{IsTaken, IsCut}

pub beats_length : (n : ℕ) → length (beats_text n) ≡ 2 * n
beats_length zero = refl
beats_length (suc n) = (let h = beats_length n in omega (arith, h))

pub one_more_beat : (n : ℕ) → beats_text n ++ beat_word ≡ beats_text (suc n)
one_more_beat zero = refl
one_more_beat (suc n) = ap (λ bytes. beat_word ++ bytes) (one_more_beat n)

pub answer_length : (n : ℕ) (end : FoEnd) → length (answer_text (with_beats n end)) ≡ 2 * n + length (end_text end)
answer_length n end = length-append (beats_text n) (end_text end) ∙ ap (λ k. k + length (end_text end)) (beats_length n)

pub within_of : (n : ℕ) (end : FoEnd) → 2 * n + length (end_text end) ≤ 1048576 → IsWithin (with_beats n end)
within_of n end le = (let e = answer_length n end in omega (arith, le, e))

pub of_within : (n : ℕ) (end : FoEnd) → IsWithin (with_beats n end) → 2 * n + length (end_text end) ≤ 1048576
of_within n end le = (let e = answer_length n end in omega (arith, le, e))

pub room_of : (s : Search) → beats_of s ≤ 524284 → HasRoom s
room_of s le = within_of (beats_of s) GaveUp (omega (arith, le))

pub of_room : (s : Search) → HasRoom s → beats_of s ≤ 524284
of_room s room = (let h = of_within (beats_of s) GaveUp room in omega (arith, h))

-- after one more turn
pub same_tenth : (t : ℕ) → (suc t % 10 ≡ 0 → ⊥) → suc t / 10 ≡ t / 10
same_tenth t other = omega (arith, other)

pub next_tenth : (t : ℕ) → suc t % 10 ≡ 0 → suc t / 10 ≡ suc (t / 10)
next_tenth t e = omega (arith, e)

pub taken_behind : (front back : List ℕ) (start mid now : Option (List ℕ)) → IsTaken front start mid → IsTaken back mid now → IsTaken (front ++ back) start now
taken_behind front back None mid now e f = f ∙ ap (option_map (λ b. b ++ back)) e
taken_behind front back (Some b) mid now e f = f ∙ (ap (option_map (λ x. x ++ back)) e ∙ ap Some (append_assoc b front back))

pub cut_behind : (front back : List ℕ) (start mid now : Option (List ℕ)) → IsTaken front start mid → IsCut back mid now → IsCut (front ++ back) start now
cut_behind front back start mid now e c =
    let len = length-append front back in
    record {
      count = length front + c.count;
      short = omega (arith, c.short, len);
      taken = subst (λ bytes. IsTaken bytes start now) (sym (take-append-add front back c.count)) (taken_behind front (take c.count back) start mid now e c.taken);
    }
