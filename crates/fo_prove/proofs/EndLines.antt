-- Texts up to and with the line `end`.
use Rattle.std.proofs.Common.{ℕ, ◌≡◌, ◌-◌, ◌<◌, ◌≤◌, Bool, true, false, eqb, List, ◌++◌, length, take, drop, Option, Some, None, sym, ap, subst, ◌∙◌, append_assoc, inl, inr, arith}
use Rattle.std.specs.Prelude.{IsTrue, codes}
use Rattle.std.specs.List.{ends_with}
use Rattle.std.specs.Option.{option_map}
use Rattle.std.specs.Cmp.Lexicographic.{pointwise}
use Rattle.std.proofs.lemmas.Bool.Decides.{Decides-eqb}
use Rattle.std.proofs.lemmas.Slice.Eq.{ends_is, slice_eq-Decides}
use Rattle.std.proofs.lemmas.List.{length-take, take-take, take-append-drop}
use Rattle.fo_prove.specs.Reading.{EndsText, HasNoEnd, IsFront, to_the_line, whole, IsRead, IsAppended, IsAtEnd, IsGivenSo, most_read}

-- the text is no single line `end`, and so what it ends with decides
pub ended_is : (z end : List ℕ) (q r : Bool) → q ≡ pointwise eqb z end → q ≡ false → end ≡ codes "end\n" → r ≡ ends_with eqb z (codes "\nend\n") →
    (IsTrue r → EndsText z) × (EndsText z → IsTrue r)
ended_is z end q r e other is f =
    let ends = ends_is Decides-eqb z (codes "\nend\n") r f in
    let one : q ≡ true → ⊥ = λ h. (cc) in
    let back : EndsText z → IsTrue r = λ h. go h one ends.1 in
    ((λ h. inr (take (length z - 5) z, ends.0 h)), back)
  where
    go : EndsText z → (q ≡ true → ⊥) → ((front : List ℕ) → z ≡ front ++ codes "\nend\n" → r ≡ true) → IsTrue r
    go (inl h) one back = absurd (one ((slice_eq-Decides Decides-eqb z end q e).1 (h ∙ sym is)))
    go (inr b) one back = back b.0 b.1

pub given_more : (start mid now : Option (List ℕ)) (text bytes : List ℕ) → IsGivenSo start mid text → now ≡ option_map (λ b. b ++ bytes) mid → IsGivenSo start now (text ++ bytes)
given_more None mid now text bytes e f = f ∙ ap (option_map (λ b. b ++ bytes)) e
given_more (Some b) mid now text bytes e f = f ∙ (ap (option_map (λ x. x ++ bytes)) e ∙ ap Some (append_assoc b text bytes))

pub given_piece : {most : ℕ} {mid now : Option (List ℕ)} {old new : List ℕ} (start : Option (List ℕ)) → IsGivenSo start mid old → IsAppended most mid now old new → IsGivenSo start now new
given_piece {most} {mid} {now} {old} {new} start so a = subst (λ text. IsGivenSo start now text) (sym a.appended) (given_more start mid now old a.bytes so a.told)

pub line_read : {most : ℕ} {mid now : Option (List ℕ)} {old gave : List ℕ} (start : Option (List ℕ)) (ended : Bool) (text : List ℕ) (n : ℕ) → IsGivenSo start mid old → IsAppended most mid now old gave →
    text ≡ take n gave → n ≤ length gave → EndsText (take n gave) → ((k : ℕ) → k < n → EndsText (take k gave) → ⊥) → IsRead start now ended text
line_read {most} {mid} {now} {old} {gave} start ended text n so a is within found first =
    let len : length (take n gave) ≤ n = omega (arith, length-take n gave) in
    let shorter : (k : ℕ) → k < length (take n gave) → EndsText (take k (take n gave)) → ⊥ = λ k less h.
    first k (omega (arith, less, len)) (subst EndsText (take-take k n gave (omega (arith, less, len))) h) in
    let front : IsFront gave ended (take n gave) = to_the_line (drop n gave) (sym (take-append-drop n gave)) found shorter in
    record { gave = gave; told = given_piece start so a; front = subst (λ t. IsFront gave ended t) (sym is) front }

pub end_read : {mid now : Option (List ℕ)} {ended : Bool} {old text : List ℕ} (start : Option (List ℕ)) → IsGivenSo start mid old → HasNoEnd old → IsAtEnd mid now ended old text → IsRead start now ended text
end_read {mid} {now} {ended} {old} {text} start so no_end a =
    let front : IsFront old ended old = whole no_end (inl a.ended) in
    record { gave = old; told = a.told ∙ so; front = subst (λ t. IsFront old ended t) (sym a.same) front }

pub limit_read : (start now : Option (List ℕ)) (ended : Bool) (text : List ℕ) → IsGivenSo start now text → HasNoEnd text → length text ≤ most_read → most_read ≤ length text → IsRead start now ended text
limit_read start now ended text so no_end within over = record { gave = text; told = so; front = whole no_end (inr (omega (arith, within, over))) }
