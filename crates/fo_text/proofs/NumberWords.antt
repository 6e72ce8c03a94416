-- A number with the byte behind it.
use Rattle.std.proofs.Common.{ℕ, ◌≡◌, ◌<◌, ◌≤◌, ◌+◌, ◌-◌, ◌*◌, suc, zero, Bool, true, false, List, [], ◌∷◌, ◌++◌, length, refl, sym, ap, ◌∙◌, subst, arith, append_assoc, inl, inr}
use Rattle.std.specs.Prelude.{decimal, ◌==◌, ◌||◌, if◌then◌else◌}
use Rattle.std.proofs.lemmas.Bool.Decides.{nat_tests}
use Rattle.std.proofs.lemmas.List.{append-nil}
use Rattle.fo_text.specs.declared.number.Ends.{Ends}
use Rattle.fo_text.specs.declared.number.Ends.TheVariants.{Space, Line, SpaceOrLine, DotOrLine, LineAtZero}
use Rattle.fo_text.specs.Words.{most_number}
use Rattle.fo_text.specs.Refusals.{Spells, Opens, Stops, Refuses}
use Rattle.fo_text.specs.Numbers.{ends_with, may_end, IsNumberWord, number_word, NoneExtends, NoneBegins, Begins, Extends}
use Rattle.fo_text.proofs.Lists.{either_front}
use Rattle.fo_text.proofs.Digits.{decimal-is, decimal-extends, decimal-more, IsDigit, value, value-le}
use Rattle.std.specs.List.{AllByRecursion}
use Rattle.std.proofs.Common.{◌⊎◌}
use Rattle.std.proofs.lemmas.Fmt.{decimal_injective, decimal_digit}

byte_low : (b c : ℕ) → c < 48 → (b == c) ≡ true → b < 48
byte_low b c l h = grind (arith, nat_tests)

or_low : (b c d : ℕ) → c < 48 → d < 48 → ((b == c) || (b == d)) ≡ true → b < 48
or_low b c d l k h = go (b == c) refl h
  where
    go : (t : Bool) → (b == c) ≡ t → (t || (b == d)) ≡ true → b < 48
    go true e h = byte_low b c l e
    go false e h = byte_low b d k h

pub ends-low : (ends : Ends) (n b : ℕ) → ends_with ends n b ≡ true → b < 48
ends-low Space n b h = byte_low b 32 (omega arith) h
ends-low Line n b h = byte_low b 10 (omega arith) h
ends-low SpaceOrLine n b h = or_low b 32 10 (omega arith) (omega arith) h
ends-low DotOrLine n b h = or_low b 46 10 (omega arith) (omega arith) h
ends-low LineAtZero n b h = go (n == 0) h
  where
    go : (t : Bool) → (if t then b == 10 else b == 32) ≡ true → b < 48
    go true h = byte_low b 10 (omega arith) h
    go false h = byte_low b 32 (omega arith) h

-- each number has a byte that may stand behind it
pub some_end : (ends : Ends) (n : ℕ) → (b : ℕ) × (ends_with ends n b ≡ true)
some_end Space n = (32, refl)
some_end Line n = (10, refl)
some_end SpaceOrLine n = (32, refl)
some_end DotOrLine n = (46, refl)
some_end LineAtZero n = go (n == 0)
  where
    go : (t : Bool) → (b : ℕ) × ((if t then b == 10 else b == 32) ≡ true)
    go true = (10, refl)
    go false = (32, refl)

pub some_word : (least most : ℕ) (ends : Ends) (n : ℕ) → least ≤ n → n ≤ most → (rest : List ℕ) × Spells (IsNumberWord least most ends) number_word (decimal n ++ rest)
some_word least most ends n low high =
    let d = some_end ends n in
    (d.0 ∷ [], ((n, d.0), record { not_below = low; not_above = high; ended = d.1 }, refl))

-- the bytes of a number that are no front of a word
stops_at : (least most : ℕ) (ends : Ends) (n : ℕ) (b : ℕ) (bs : List ℕ) → n ≤ most → most ≤ most_number → NoneExtends most n (b ∷ bs) → ends_with ends n b ≡ false
    → (z : List ℕ) → Opens (IsNumberWord least most ends) number_word (decimal n ++ b ∷ z) → ⊥
stops_at least most ends n b bs hn hm none not_ended z o =
    let m : ℕ = o.0.0 in
    let d : ℕ = o.0.1 in
    let high : m ≤ most = o.1.not_above in
    let low : d < 48 = ends-low ends m d o.1.ended in
    let e : decimal n ++ b ∷ z ≡ decimal m ++ d ∷ o.2 = o.3 ∙ append_assoc (decimal m) (d ∷ []) o.2 in
    elim (either_front (decimal n) (decimal m) (b ∷ z) (d ∷ o.2) e) [
      | inl w ↦ longer w.0 w.1 w.2
      | inr w ↦ (let x = decimal-extends n m w.0 w.1 (omega arith) (omega arith) w.2 in let s : d ≡ w.0 = cc in let f = x.1.0 in omega arith)
    ]
  where
    longer : (r : List ℕ) → decimal o.0.0 ≡ decimal n ++ r → b ∷ z ≡ r ++ o.0.1 ∷ o.2 → ⊥
    longer [] h k =
        let same : o.0.0 ≡ n = decimal_injective o.0.0 n (let high : o.0.0 ≤ most = o.1.not_above in omega arith) (omega arith) (h ∙ append-nil (decimal n)) in
        let byte : b ≡ o.0.1 = cc in
        let t : ends_with ends n b ≡ true = subst (λ u. ends_with ends n u ≡ true) (sym byte) (subst (λ u. ends_with ends u o.0.1 ≡ true) same o.1.ended) in
        cc
    longer (c ∷ r) h k =
        let high : o.0.0 ≤ most = o.1.not_above in
        let x = decimal-extends o.0.0 n c r (omega arith) (omega arith) h in
        let s : b ≡ c = cc in
        let f : most < 10 * n + (b - 48) = none (let q = x.1.0 in omega arith) (let q = x.1.1 in omega arith) x.0 in
        let g : 10 * n + (c - 48) ≤ o.0.0 = x.2 in
        omega arith

ends_early : (least most : ℕ) (ends : Ends) (n : ℕ) → n ≤ most → most ≤ most_number → Opens (IsNumberWord least most ends) number_word (decimal n ++ []) → ⊥
ends_early least most ends n hn hm o =
    let m : ℕ = o.0.0 in
    let d : ℕ = o.0.1 in
    let high : m ≤ most = o.1.not_above in
    let low : d < 48 = ends-low ends m d o.1.ended in
    let e : decimal n ++ [] ≡ decimal m ++ d ∷ o.2 = o.3 ∙ append_assoc (decimal m) (d ∷ []) o.2 in
    elim (either_front (decimal n) (decimal m) [] (d ∷ o.2) e) [
      | inl w ↦ never w.0 w.2
      | inr w ↦ (let x = decimal-extends n m w.0 w.1 (omega arith) (omega arith) w.2 in let s : d ≡ w.0 = cc in let f = x.1.0 in omega arith)
    ]
  where
    never : (r : List ℕ) → [] ≡ r ++ o.0.1 ∷ o.2 → ⊥
    never [] k = cc
    never (c ∷ r) k = cc

number-stops : (least most : ℕ) (ends : Ends) (n : ℕ) (rest : List ℕ) → n ≤ most → most ≤ most_number → NoneExtends most n rest → may_end ends n rest ≡ false
    → Stops (λ z. Opens (IsNumberWord least most ends) number_word (decimal n ++ z)) rest
number-stops least most ends n [] hn hm none not_ended = λ o. ends_early least most ends n hn hm o
number-stops least most ends n (b ∷ bs) hn hm none not_ended = λ z o. stops_at least most ends n b bs hn hm none not_ended z o

-- a number whose digits end before a byte that may not stand there
pub refuses-end : (least most : ℕ) (ends : Ends) (input : List ℕ) (n : ℕ) (rest : List ℕ) → input ≡ decimal n ++ rest → least ≤ n → n ≤ most → most ≤ most_number → NoneExtends most n rest → may_end ends n rest ≡ false
    → Refuses (Spells (IsNumberWord least most ends) number_word) (Opens (IsNumberWord least most ends) number_word) input (length rest)
refuses-end least most ends input n rest e low high hm none not_ended =
    let s = some_word least most ends n low high in
    record { before = decimal n; after = rest; input_is = e; left_is = refl; rest = s.0; goes_on = s.1; stops = number-stops least most ends n rest high hm none not_ended }

zero_or_more : (k : ℕ) → (k ≡ 0) ⊎ (0 < k)
zero_or_more zero = inl refl
zero_or_more (suc k) = inr (omega arith)

begins_not : (least most : ℕ) (ends : Ends) (b : ℕ) (bs : List ℕ) → least ≤ 1 → most ≤ most_number → NoneBegins least most (b ∷ bs) → (z : List ℕ) → Opens (IsNumberWord least most ends) number_word (b ∷ z) → ⊥
begins_not least most ends b bs one hm none z o =
    let m : ℕ = o.0.0 in
    let high : m ≤ most = o.1.not_above in
    let low : least ≤ m = o.1.not_below in
    let d = decimal-is m (omega arith) in
    let e : b ∷ z ≡ d.first ∷ (d.others ++ o.0.1 ∷ o.2) = o.3 ∙ append_assoc (decimal m) (o.0.1 ∷ []) o.2 ∙ ap (λ u. u ++ o.0.1 ∷ o.2) d.first_is in
    let s : b ≡ d.first = cc in
    let whole : value (10 * 0 + (d.first - 48)) d.others ≡ m = sym (ap (value 0) d.first_is) ∙ d.value_is in
    let large = value-le (10 * 0 + (d.first - 48)) d.others in
    let digit = digit_of (decimal m) d.first d.others d.first_is d.digits in
    zero_case d.first d.others m digit.0 digit.1 s whole large low high d.alone
  where
    digit_of : (ds : List ℕ) (f : ℕ) (os : List ℕ) → ds ≡ f ∷ os → AllByRecursion IsDigit ds → (48 ≤ f) × (f ≤ 57)
    digit_of ds f os e a = (subst (AllByRecursion IsDigit) e a).0

    zero_case : (f : ℕ) (os : List ℕ) (m : ℕ) → 48 ≤ f → f ≤ 57 → b ≡ f → value (10 * 0 + (f - 48)) os ≡ m → 10 * 0 + (f - 48) ≤ value (10 * 0 + (f - 48)) os → least ≤ m → m ≤ most → (f ≡ 48 → os ≡ []) → ⊥
    zero_case f os m fl fh s whole large low high alone =
        elim (zero_or_more (f - 48)) [
          | inl z ↦ (let f48 : f ≡ 48 = omega arith in let w : value (10 * 0 + (f - 48)) [] ≡ m = subst (λ u. value (10 * 0 + (f - 48)) u ≡ m) (alone f48) whole in let n : least ≤ b - 48 → most < b - 48 = none (omega arith) (omega arith) in omega arith)
          | inr p ↦ (let n : least ≤ b - 48 → most < b - 48 = none (omega arith) (omega arith) in let q : most < b - 48 = n (omega arith) in omega arith)
        ]

begins_nothing : (least most : ℕ) (ends : Ends) → most ≤ most_number → Opens (IsNumberWord least most ends) number_word [] → ⊥
begins_nothing least most ends hm o =
    let high : o.0.0 ≤ most = o.1.not_above in
    let d = decimal-is o.0.0 (omega arith) in
    let e : [] ≡ d.first ∷ (d.others ++ o.0.1 ∷ o.2) = o.3 ∙ append_assoc (decimal o.0.0) (o.0.1 ∷ []) o.2 ∙ ap (λ u. u ++ o.0.1 ∷ o.2) d.first_is in
    cc

first-stops : (least most : ℕ) (ends : Ends) (input : List ℕ) → least ≤ 1 → most ≤ most_number → NoneBegins least most input → Stops (λ z. Opens (IsNumberWord least most ends) number_word ([] ++ z)) input
first-stops least most ends [] one hm none = λ o. begins_nothing least most ends hm o
first-stops least most ends (b ∷ bs) one hm none = λ z o. begins_not least most ends b bs one hm none z o

-- an input whose first byte begins no number
pub refuses-start : (least most : ℕ) (ends : Ends) (input : List ℕ) → least ≤ most → least ≤ 1 → most ≤ most_number → NoneBegins least most input
    → Refuses (Spells (IsNumberWord least most ends) number_word) (Opens (IsNumberWord least most ends) number_word) input (length input)
refuses-start least most ends input r one hm none =
    let s = some_word least most ends least (omega arith) r in
    record { before = []; after = input; input_is = refl; left_is = refl; rest = decimal least ++ s.0; goes_on = s.1; stops = first-stops least most ends input one hm none }

-- one digit more
pub digits-more : (first : ℕ) (tail : List ℕ) (value : ℕ) (rest : List ℕ) (more : ℕ) (left : List ℕ) → decimal first ++ tail ≡ decimal value ++ rest → more ≤ most_number → Extends rest value more left → decimal first ++ tail ≡ decimal more ++ left
digits-more first tail value rest more left e high x =
    let m : more ≡ 10 * value + (x.byte - 48) = x.more_is in
    let low = x.low in
    let up = x.high in
    let d : decimal (10 * value + (x.byte - 48)) ≡ decimal value ++ ((48 + (x.byte - 48)) ∷ []) = decimal-more value (x.byte - 48) x.positive (omega arith) (omega arith) in
    let b : 48 + (x.byte - 48) ≡ x.byte = omega arith in
    e ∙ ap (λ u. decimal value ++ u) x.rest_is ∙ sym (append_assoc (decimal value) (x.byte ∷ []) left) ∙ ap (λ u. u ++ left) (sym (ap decimal m ∙ d ∙ ap (λ u. decimal value ++ u ∷ []) b))

pub begun : (input : List ℕ) (v : ℕ) (tail : List ℕ) → Begins input v tail → input ≡ decimal v ++ tail
begun input v tail b = b.input_is ∙ ap (λ u. u ++ tail) (sym (decimal_digit v (let d = b.digit in omega arith)))
