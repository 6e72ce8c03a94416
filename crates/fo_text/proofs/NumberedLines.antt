-- Lines of a number and of values, each behind a separator.
use Rattle.std.proofs.Common.{ℕ, ◌≡◌, ◌<◌, ◌≤◌, true, List, [], ◌∷◌, ◌++◌, refl, sym, ap, ◌∙◌, arith, append_assoc, inl, inr}
use Rattle.std.specs.Prelude.{decimal}
use Rattle.std.specs.List.{AllByRecursion, flat_map}
use Rattle.std.proofs.lemmas.List.{append-nil}
use Rattle.std.proofs.lemmas.List.Concat.{flat_map-append}
use Rattle.fo_text.specs.Words.{most_number, newline}
use Rattle.fo_text.specs.Refusals.{Spells, Opens}
use Rattle.fo_text.specs.declared.number.Ends.{Ends}
use Rattle.fo_text.specs.Numbers.{ends_with, IsNumberWord, number_word}
use Rattle.fo_text.specs.Answers.{IsSmall}
use Rattle.fo_text.specs.AnswerSpellings.{tail_text}
use Rattle.fo_text.specs.AnswerReads.{IsEndByte, IsEnded, ended_text}
use Rattle.fo_text.proofs.Lists.{All-append}
use Rattle.fo_text.proofs.SymbolLines.{same_number}
use Rattle.fo_text.proofs.Composing.{refuses-then, IsCode}
use Rattle.fo_text.proofs.Sequences.{Stopped}

-- the list begins with a byte below the digits
abbrev pub IsLow : List ℕ → Type 0
IsLow p = (c : ℕ) × (u : List ℕ) × (p ≡ c ∷ u) × (c < 48)

-- no text of a value with such a byte behind it begins another
pub record IsWordCode {X : Type 0} (IsX : X → Type 0) (tx : X → List ℕ) : Type 0 where
  pub same : (x y : X) (p q : List ℕ) → IsX x → IsX y → IsLow p → IsLow q → tx x ++ p ≡ tx y ++ q → (x ≡ y) × (p ≡ q)

abbrev pub parted : {X : Type 0} → ℕ → (X → List ℕ) → List X → List ℕ
parted s tx xs = flat_map (λ x. s ∷ tx x) xs

abbrev pub IsLine : {X : Type 0} → (X → Type 0) → ℕ × List X → Type 0
IsLine IsX l = IsSmall l.0 × AllByRecursion IsX l.1

abbrev pub line_text : {X : Type 0} → ℕ → (X → List ℕ) → ℕ × List X → List ℕ
line_text s tx l = decimal l.0 ++ tail_text s tx l.1

line_parts : {X : Type 0} (s : ℕ) (tx : X → List ℕ) (n : ℕ) (xs : List X) (p : List ℕ) → line_text s tx (n, xs) ++ p ≡ decimal n ++ (parted s tx xs ++ newline ∷ p)
line_parts s tx n xs p = append_assoc (decimal n) (parted s tx xs ++ newline ∷ []) p ∙ ap (λ u. decimal n ++ u) (append_assoc (parted s tx xs) (newline ∷ []) p)

parted_low : {X : Type 0} (s : ℕ) (tx : X → List ℕ) (xs : List X) (p : List ℕ) → s < 48 → IsLow p → IsLow (parted s tx xs ++ p)
parted_low s tx [] p l h = h
parted_low s tx (x ∷ xs) p l h = (s, (tx x ++ parted s tx xs) ++ p, refl, l)

newline_low : (p : List ℕ) → IsLow (newline ∷ p)
newline_low p = (10, p, refl, omega arith)

-- which byte it is
end_byte : {X : Type 0} (s : ℕ) (tx : X → List ℕ) (xs : List X) (p : List ℕ) (c : ℕ) (q : List ℕ) → parted s tx xs ++ newline ∷ p ≡ c ∷ q → IsEndByte s c
end_byte s tx [] p c q e = let h : c ≡ 10 = cc in inr h
end_byte s tx (x ∷ xs) p c q e = let h : c ≡ s = cc in inl h

tail_of : (a b : ℕ) (p q : List ℕ) → a ∷ p ≡ b ∷ q → p ≡ q
tail_of a b p q e = cc

parted-same : {X : Type 0} (s : ℕ) (IsX : X → Type 0) (tx : X → List ℕ) (code : IsWordCode IsX tx) (xs ys : List X) (p q : List ℕ) → s < 48 → (s ≡ 10 → ⊥) → AllByRecursion IsX xs → AllByRecursion IsX ys
    → parted s tx xs ++ newline ∷ p ≡ parted s tx ys ++ newline ∷ q → (xs ≡ ys) × (p ≡ q)
parted-same s IsX tx code [] [] p q l n a b e = (refl, tail_of newline newline p q e)
parted-same s IsX tx code [] (y ∷ ys) p q l n a b e = absurd (n (let h : s ≡ 10 = cc in h))
parted-same s IsX tx code (x ∷ xs) [] p q l n a b e = absurd (n (let h : s ≡ 10 = cc in h))
parted-same s IsX tx code (x ∷ xs) (y ∷ ys) p q l n a b e =
    let h : (tx x ++ parted s tx xs) ++ newline ∷ p ≡ (tx y ++ parted s tx ys) ++ newline ∷ q = tail_of s s ((tx x ++ parted s tx xs) ++ newline ∷ p) ((tx y ++ parted s tx ys) ++ newline ∷ q) e in
    let t = code.same x y (parted s tx xs ++ newline ∷ p) (parted s tx ys ++ newline ∷ q) a.0 b.0 (parted_low s tx xs (newline ∷ p) l (newline_low p)) (parted_low s tx ys (newline ∷ q) l (newline_low q))
    (sym (append_assoc (tx x) (parted s tx xs) (newline ∷ p)) ∙ h ∙ append_assoc (tx y) (parted s tx ys) (newline ∷ q)) in
    let r = parted-same s IsX tx code xs ys p q l n a.1 b.1 t.1 in
    (ap (λ u. u ∷ xs) t.0 ∙ ap (λ u. y ∷ u) r.0, r.1)

-- what goes on behind some values: one more, and the rest of a line
pub record GoesOn {X : Type 0} (s : ℕ) (IsX : X → Type 0) (tx : X → List ℕ) (p z : List ℕ) : Type 0 where
  pub value : X
  pub is : IsX value
  pub others : List X
  pub text_is : z ≡ tx value ++ (parted s tx others ++ newline ∷ p)

parted-back : {X : Type 0} (s : ℕ) (IsX : X → Type 0) (tx : X → List ℕ) (code : IsWordCode IsX tx) (xs ys : List X) (p z : List ℕ) → s < 48 → (s ≡ 10 → ⊥) → AllByRecursion IsX xs → AllByRecursion IsX ys
    → parted s tx ys ++ newline ∷ p ≡ parted s tx xs ++ s ∷ z → GoesOn s IsX tx p z
parted-back s IsX tx code [] [] p z l n a b e = absurd (n (let h : s ≡ 10 = cc in h))
parted-back s IsX tx code [] (y ∷ ys) p z l n a b e =
    record { value = y; is = b.0; others = ys; text_is = sym (tail_of s s ((tx y ++ parted s tx ys) ++ newline ∷ p) z e) ∙ append_assoc (tx y) (parted s tx ys) (newline ∷ p) }
parted-back s IsX tx code (x ∷ xs) [] p z l n a b e = absurd (n (let h : s ≡ 10 = cc in h))
parted-back s IsX tx code (x ∷ xs) (y ∷ ys) p z l n a b e =
    let h : (tx y ++ parted s tx ys) ++ newline ∷ p ≡ (tx x ++ parted s tx xs) ++ s ∷ z = tail_of s s ((tx y ++ parted s tx ys) ++ newline ∷ p) ((tx x ++ parted s tx xs) ++ s ∷ z) e in
    let t = code.same y x (parted s tx ys ++ newline ∷ p) (parted s tx xs ++ s ∷ z) b.0 a.0 (parted_low s tx ys (newline ∷ p) l (newline_low p)) (parted_low s tx xs (s ∷ z) l (s, z, refl, l))
    (sym (append_assoc (tx y) (parted s tx ys) (newline ∷ p)) ∙ h ∙ append_assoc (tx x) (parted s tx xs) (s ∷ z)) in
    parted-back s IsX tx code xs ys p z l n a.1 b.1 t.1

pub line-code : {X : Type 0} (s : ℕ) (IsX : X → Type 0) (tx : X → List ℕ) → IsWordCode IsX tx → s < 48 → (s ≡ 10 → ⊥) → IsCode (IsLine IsX) (line_text s tx)
line-code s IsX tx code l n = record {
  same = λ x y p q i j e.
      let hx = i.0 in
      let hy = j.0 in
      let t = same_number x.0 y.0 (parted s tx x.1 ++ newline ∷ p) (parted s tx y.1 ++ newline ∷ q) (omega arith) (omega arith) (parted_low s tx x.1 (newline ∷ p) l (newline_low p)) (parted_low s tx y.1 (newline ∷ q) l (newline_low q))
      (sym (line_parts s tx x.0 x.1 p) ∙ e ∙ line_parts s tx y.0 y.1 q) in
      let r = parted-same s IsX tx code x.1 y.1 p q l n i.1 j.1 t.1 in
      (ap (λ u. (u, x.1)) t.0 ∙ ap (λ u. (y.0, u)) r.0, r.1);
}

-- the number of a line is refused
pub line-first : {X : Type 0} (s : ℕ) (IsX : X → Type 0) (tx : X → List ℕ) (some : X) → IsX some → (ends : Ends) → s < 48 → ((n b : ℕ) → ends_with ends n b ≡ true → IsEndByte s b) → ((n b : ℕ) → IsEndByte s b → ends_with ends n b ≡ true)
    → (input : List ℕ) (left : ℕ) → Stopped (IsNumberWord 0 most_number ends) number_word input left → Stopped (IsLine IsX) (line_text s tx) input left
line-first {X = X} s IsX tx some is ends l to from input left r =
    refuses-then (IsLine IsX) (line_text s tx) (IsNumberWord 0 most_number ends) number_word [] input left
    (λ w i. forth w.0 w.1 i.not_above (to w.0 w.1 i.ended))
    (λ z o. (let g = parted_low s tx o.0.1 (newline ∷ o.2) l (newline_low o.2) in (
      (o.0.0, g.0),
      record { not_below = omega arith; not_above = o.1.0; ended = from o.0.0 g.0 (end_byte s tx o.0.1 o.2 g.0 g.1 g.2) },
      g.1,
      o.3 ∙ line_parts s tx o.0.0 o.0.1 o.2 ∙ ap (λ u. decimal o.0.0 ++ u) g.2 ∙ sym (append_assoc (decimal o.0.0) (g.0 ∷ []) g.1),
    ))) r
  where
    forth : (n b : ℕ) → n ≤ most_number → IsEndByte s b → (more : List ℕ) × Spells (IsLine IsX) (line_text s tx) ((decimal n ++ b ∷ []) ++ more)
    forth n b h (inl e) = ((tx some ++ []) ++ newline ∷ [], ((n, some ∷ []), (h, (is, tt)), append_assoc (decimal n) (b ∷ []) ((tx some ++ []) ++ newline ∷ []) ∙ ap (λ u. decimal n ++ u ∷ ((tx some ++ []) ++ newline ∷ [])) e))
    forth n b h (inr e) = ([], ((n, []), (h, tt), append-nil (decimal n ++ b ∷ []) ∙ ap (λ u. decimal n ++ u ∷ []) e))

-- a later value of a line is refused
pub line-next : {X : Type 0} (s : ℕ) (IsX : X → Type 0) (tx : X → List ℕ) → IsWordCode IsX tx → s < 48 → (s ≡ 10 → ⊥) → (n : ℕ) (xs : List X) (input : List ℕ) (left : ℕ) → n ≤ most_number → AllByRecursion IsX xs
    → Stopped (IsEnded s IsX) (ended_text tx) input left → Stopped (IsLine IsX) (line_text s tx) ((decimal n ++ (parted s tx xs ++ s ∷ [])) ++ input) left
line-next {X = X} s IsX tx code l ne n xs input left hn ha r =
    refuses-then (IsLine IsX) (line_text s tx) (IsEnded s IsX) (ended_text tx) (decimal n ++ (parted s tx xs ++ s ∷ [])) input left
    (λ w i. forth w.0 w.1 i.0 i.1)
    (λ z o. back z o.0.0 o.0.1 o.1.0 o.1.1 o.2 (sym (line_parts s tx o.0.0 o.0.1 o.2) ∙ sym o.3 ∙ before z)) r
  where
    before : (z : List ℕ) → (decimal n ++ (parted s tx xs ++ s ∷ [])) ++ z ≡ decimal n ++ (parted s tx xs ++ s ∷ z)
    before z = append_assoc (decimal n) (parted s tx xs ++ s ∷ []) z ∙ ap (λ u. decimal n ++ u) (append_assoc (parted s tx xs) (s ∷ []) z)

    one_more : (x : X) (ys : List X) (p : List ℕ) → parted s tx (xs ++ x ∷ ys) ++ p ≡ parted s tx xs ++ s ∷ (tx x ++ (parted s tx ys ++ p))
    one_more x ys p = ap (λ u. u ++ p) (flat_map-append (λ k. s ∷ tx k) xs (x ∷ ys)) ∙ append_assoc (parted s tx xs) (parted s tx (x ∷ ys)) p ∙ ap (λ u. parted s tx xs ++ s ∷ u) (append_assoc (tx x) (parted s tx ys) p)

    whole : (x : X) (ys : List X) (more : List ℕ) (b : ℕ) → b ∷ more ≡ parted s tx ys ++ newline ∷ [] → (decimal n ++ (parted s tx xs ++ s ∷ [])) ++ ((tx x ++ b ∷ []) ++ more) ≡ decimal n ++ (parted s tx (xs ++ x ∷ ys) ++ newline ∷ [])
    whole x ys more b e =
        before ((tx x ++ b ∷ []) ++ more) ∙ ap (λ u. decimal n ++ (parted s tx xs ++ s ∷ u)) (append_assoc (tx x) (b ∷ []) more ∙ ap (λ u. tx x ++ u) e) ∙ ap (λ u. decimal n ++ u) (sym (one_more x ys (newline ∷ [])))

    forth : (x : X) (b : ℕ) → IsX x → IsEndByte s b → (more : List ℕ) × Spells (IsLine IsX) (line_text s tx) ((decimal n ++ (parted s tx xs ++ s ∷ [])) ++ ((tx x ++ b ∷ []) ++ more))
    forth x b h (inl e) = ((tx x ++ []) ++ newline ∷ [], ((n, xs ++ x ∷ x ∷ []), (hn, All-append IsX xs (x ∷ x ∷ []) ha (h, (h, tt))), whole x (x ∷ []) ((tx x ++ []) ++ newline ∷ []) b (ap (λ u. u ∷ ((tx x ++ []) ++ newline ∷ [])) e)))
    forth x b h (inr e) = ([], ((n, xs ++ x ∷ []), (hn, All-append IsX xs (x ∷ []) ha (h, tt)), whole x [] [] b (ap (λ u. u ∷ []) e)))

    back : (z : List ℕ) (m : ℕ) (ys : List X) → m ≤ most_number → AllByRecursion IsX ys → (p : List ℕ) → decimal m ++ (parted s tx ys ++ newline ∷ p) ≡ decimal n ++ (parted s tx xs ++ s ∷ z) → Opens (IsEnded s IsX) (ended_text tx) z
    back z m ys hm hy p e =
        let t = same_number m n (parted s tx ys ++ newline ∷ p) (parted s tx xs ++ s ∷ z) (omega arith) (omega arith) (parted_low s tx ys (newline ∷ p) l (newline_low p)) (parted_low s tx xs (s ∷ z) l (s, z, refl, l)) e in
        let g = parted-back s IsX tx code xs ys p z l ne ha hy t.1 in
        let b = parted_low s tx g.others (newline ∷ p) l (newline_low p) in
        ((g.value, b.0), (g.is, end_byte s tx g.others p b.0 b.1 b.2), b.1, g.text_is ∙ ap (λ u. tx g.value ++ u) b.2 ∙ sym (append_assoc (tx g.value) (b.0 ∷ []) b.1))

pub line_so_far : {X : Type 0} (s : ℕ) (tx : X → List ℕ) (n : ℕ) (xs : List X) (tail input rest : List ℕ) → input ≡ decimal n ++ (parted s tx xs ++ rest) → rest ≡ s ∷ tail → input ≡ (decimal n ++ (parted s tx xs ++ s ∷ [])) ++ tail
line_so_far s tx n xs tail input rest e h = e ∙ ap (λ u. decimal n ++ (parted s tx xs ++ u)) h ∙ ap (λ u. decimal n ++ u) (sym (append_assoc (parted s tx xs) (s ∷ []) tail)) ∙ sym (append_assoc (decimal n) (parted s tx xs ++ s ∷ []) tail)

pub line_more : {X : Type 0} (s : ℕ) (tx : X → List ℕ) (n : ℕ) (xs : List X) (x : X) (tail input rest left : List ℕ) → input ≡ decimal n ++ (parted s tx xs ++ rest) → rest ≡ s ∷ tail → tail ≡ tx x ++ left → input ≡ decimal n ++ (parted s tx (xs ++ x ∷ []) ++ left)
line_more s tx n xs x tail input rest left e h g =
    e ∙ ap (λ u. decimal n ++ (parted s tx xs ++ u)) (h ∙ ap (λ u. s ∷ u) g) ∙ ap (λ u. decimal n ++ u) (ap (λ u. parted s tx xs ++ u) (ap (λ u. u ++ left) (sym (append-nil (s ∷ tx x)))) ∙ sym (append_assoc (parted s tx xs) ((s ∷ tx x) ++ []) left) ∙ ap (λ u. u ++ left) (sym (flat_map-append (λ k. s ∷ tx k) xs (x ∷ []))))

pub line_done : {X : Type 0} (s : ℕ) (tx : X → List ℕ) (n : ℕ) (xs : List X) (input rest back : List ℕ) → input ≡ decimal n ++ (parted s tx xs ++ rest) → rest ≡ newline ∷ back → input ≡ line_text s tx (n, xs) ++ back
line_done s tx n xs input rest back e h = e ∙ ap (λ u. decimal n ++ (parted s tx xs ++ u)) h ∙ sym (line_parts s tx n xs back)
