-- The pieces of the lines of an answer.
use Rattle.std.proofs.Common.{ℕ, ◌≡◌, ◌<◌, ◌≤◌, Bool, true, false, List, [], ◌∷◌, ◌++◌, length, refl, sym, ap, ◌∙◌, subst, arith, append_assoc, ◌⊎◌, inl, inr}
use Rattle.std.specs.Prelude.{decimal, ◌==◌, ◌||◌}
use Rattle.std.specs.List.{AllByRecursion}
use Rattle.std.proofs.lemmas.Bool.Decides.{nat_tests}
use Rattle.std.proofs.lemmas.List.{append-nil}
use Rattle.fo_text.specs.declared.answer.FoWord.{FoWord}
use Rattle.fo_text.specs.declared.answer.FoWord.TheVariants.{Number, Var, Sym}
use Rattle.fo_text.specs.declared.answer.FoSide.{FoSide}
use Rattle.fo_text.specs.declared.answer.FoSide.TheVariants.{Left, Right}
use Rattle.fo_text.specs.declared.lines.LineKind.{LineKind}
use Rattle.fo_text.specs.declared.lines.LineKind.TheVariants.{Instance, Paramodulation, Factoring, Dropping, Finish}
use Rattle.fo_text.specs.declared.lines.FrontKind.{FrontKind}
use Rattle.fo_text.specs.declared.lines.FrontKind.TheVariants.{Beat, GivingUp, Refutation}
use Rattle.fo_text.specs.declared.number.Ends.TheVariants.{Space, SpaceOrLine, DotOrLine}
use Rattle.fo_text.specs.Words.{most_number, newline, space}
use Rattle.fo_text.specs.Refusals.{Opens}
use Rattle.fo_text.specs.Numbers.{IsNumberWord, number_word}
use Rattle.fo_text.specs.Pieces.{StandsFirst, IsKeyword, keyword_text, IsBetween}
use Rattle.fo_text.specs.Spellings.{field_text}
use Rattle.fo_text.specs.Answers.{IsSmall, IsWord}
use Rattle.fo_text.specs.AnswerSpellings.{side_byte, word_text, spaced_number, ended_side, path_text, tail_text, point}
use Rattle.fo_text.specs.AnswerReads.{IsEndByte, IsEnded, ended_text, line_word, front_word, IsPlace, place_word, IsPath}
use Rattle.fo_text.proofs.Lists.{append-cancel}
use Rattle.fo_text.proofs.Digits.{decimal-is, decimal-same, IsDigit}
use Rattle.fo_text.proofs.SymbolLines.{same_number, space_or_line}
use Rattle.fo_text.proofs.Composing.{IsCode, refuses-then, refuses-same}
use Rattle.fo_text.proofs.Sequences.{Stopped, BeginAlike, refuses-part, AreApart, IsAny, choice-none, choice-word, choice-code, IsPair, pair_text, pair-first, pair-then, pair-code}
use Rattle.fo_text.proofs.NumberedLines.{IsLow, IsWordCode, parted, IsLine, line_text, line-code, line-first, line-next}

abbrev pub first_byte : List ℕ → ℕ
first_byte [] = 0
first_byte (b ∷ bs) = b

-- kinds of lines
line_first : LineKind → ℕ
line_first Instance = 105
line_first Paramodulation = 112
line_first Factoring = 102
line_first Dropping = 100
line_first Finish = 37

line_tail : LineKind → List ℕ
line_tail Instance = 32 ∷ []
line_tail Paramodulation = 32 ∷ []
line_tail Factoring = 32 ∷ []
line_tail Dropping = 32 ∷ []
line_tail Finish = 32 ∷ 101 ∷ 110 ∷ 100 ∷ 10 ∷ []

line_is : (t : LineKind) → line_word t ≡ line_first t ∷ line_tail t
unfolding line_first line_tail
line_is Instance = refl
line_is Paramodulation = refl
line_is Factoring = refl
line_is Dropping = refl
line_is Finish = refl

line_same : (t u : LineKind) → line_first t ≡ line_first u → t ≡ u
unfolding line_first
line_same Instance Instance e = refl
line_same Paramodulation Paramodulation e = refl
line_same Factoring Factoring e = refl
line_same Dropping Dropping e = refl
line_same Finish Finish e = refl
line_same t u e = absurd (omega arith)

pub line-apart : AreApart line_word
line-apart = record { first = line_first; tail = line_tail; word_is = line_is; same = line_same }

front_first : FrontKind → ℕ
front_first Beat = 46
front_first GivingUp = 103
front_first Refutation = 114

front_tail : FrontKind → List ℕ
front_tail Beat = 10 ∷ []
front_tail GivingUp = 97 ∷ 118 ∷ 101 ∷ 117 ∷ 112 ∷ 10 ∷ []
front_tail Refutation = 101 ∷ 102 ∷ 117 ∷ 116 ∷ 101 ∷ 100 ∷ 10 ∷ []

front_is : (t : FrontKind) → front_word t ≡ front_first t ∷ front_tail t
unfolding front_first front_tail
front_is Beat = refl
front_is GivingUp = refl
front_is Refutation = refl

front_same : (t u : FrontKind) → front_first t ≡ front_first u → t ≡ u
unfolding front_first
front_same Beat Beat e = refl
front_same GivingUp GivingUp e = refl
front_same Refutation Refutation e = refl
front_same t u e = absurd (omega arith)

pub front-apart : AreApart front_word
front-apart = record { first = front_first; tail = front_tail; word_is = front_is; same = front_same }

side_same : (s t : FoSide) → side_byte s ≡ side_byte t → s ≡ t
side_same Left Left e = refl
side_same Left Right e = absurd (omega arith)
side_same Right Left e = absurd (omega arith)
side_same Right Right e = refl

pub side-apart : (end : ℕ) → AreApart (ended_side end)
side-apart end = record { first = side_byte; tail = λ s. end ∷ []; word_is = λ s. refl; same = side_same }

-- a word that the first byte tells
stands_there : {T : Type 0} (word : T → List ℕ) (apart : AreApart word) (t : T) (b : ℕ) → StandsFirst b (word t) → apart.first t ≡ b
stands_there word apart t b h = subst (StandsFirst b) (apart.word_is t) h

pub choice-empty : {T : Type 0} (word : T → List ℕ) → AreApart word → T → (input : List ℕ) → length input ≡ 0 → Stopped (IsAny {T = T}) word input (length input)
choice-empty word apart some [] e = choice-none word apart some [] (λ t h. h)
choice-empty word apart some (b ∷ bs) e = absurd (omega arith)

pub choice-unknown : {T : Type 0} (word : T → List ℕ) → AreApart word → T → (input : List ℕ) (b : ℕ) (bs : List ℕ) → input ≡ b ∷ bs → ((t : T) → StandsFirst b (word t) → ⊥) → Stopped (IsAny {T = T}) word input (length input)
choice-unknown word apart some input b bs e n = choice-none word apart some input (λ t h. n t (let f : b ≡ apart.first t = subst (StandsFirst (apart.first t)) e h in subst (StandsFirst b) (sym (apart.word_is t)) (sym f)))

pub choice-known : {T : Type 0} (word : T → List ℕ) → AreApart word → (t : T) (input : List ℕ) (b : ℕ) (bs : List ℕ) → input ≡ b ∷ bs → StandsFirst b (word t) → (text : List ℕ) → text ≡ word t → (left : ℕ) → Stopped IsKeyword (keyword_text text) input left → Stopped (IsAny {T = T}) word input left
choice-known word apart t input b bs e h text f left r = choice-word word apart t input left (subst (StandsFirst (apart.first t)) (sym e) (sym (stands_there word apart t b h))) (subst (λ u. Stopped IsKeyword (keyword_text u) input left) f r)

-- values of one kind written as those of another
pub view-stop : {X Y : Type 0} (IsX : X → Type 0) (tx : X → List ℕ) (IsY : Y → Type 0) (ty : Y → List ℕ) (made : Y → X) (seen : X → Y) → ((y : Y) → IsY y → IsX (made y)) → ((y : Y) → ty y ≡ tx (made y)) → ((x : X) → IsX x → IsY (seen x)) → ((x : X) → tx x ≡ ty (seen x))
    → (input : List ℕ) (left : ℕ) → Stopped IsY ty input left → Stopped IsX tx input left
view-stop IsX tx IsY ty made seen to text from back input left r =
    refuses-then IsX tx IsY ty [] input left (λ y i. ([], (made y, to y i, append-nil (ty y) ∙ text y))) (λ z o. (seen o.0, from o.0 o.1, o.2, o.3 ∙ ap (λ u. u ++ o.2) (back o.0))) r

pub view-code : {X Y : Type 0} (IsX : X → Type 0) (tx : X → List ℕ) (IsY : Y → Type 0) (ty : Y → List ℕ) (made : Y → X) (seen : X → Y) → ((x : X) → IsX x → IsY (seen x)) → ((x : X) → tx x ≡ ty (seen x)) → ((x : X) → made (seen x) ≡ x) → IsCode IsY ty → IsCode IsX tx
view-code IsX tx IsY ty made seen from back same code = record {
  same = λ x y p q i j e.
      let s = code.same (seen x) (seen y) p q (from x i) (from y j) (ap (λ u. u ++ p) (sym (back x)) ∙ e ∙ ap (λ u. u ++ q) (back y)) in
      (sym (same x) ∙ ap made s.0 ∙ same y, s.1);
}

-- numbers with a byte behind them
is_space : (b : ℕ) → (b == 32) ≡ true → b ≡ space
is_space b e = grind (arith, nat_tests)

pub spaced-stop : (input : List ℕ) (left : ℕ) → Stopped (IsNumberWord 0 most_number Space) number_word input left → Stopped IsSmall spaced_number input left
spaced-stop input left r =
    refuses-then IsSmall spaced_number (IsNumberWord 0 most_number Space) number_word [] input left
    (λ w i. ([], (w.0, i.not_above, append-nil (number_word w) ∙ ap (λ b. decimal w.0 ++ b ∷ []) (is_space w.1 i.ended))))
    (λ z o. ((o.0, space), record { not_below = omega arith; not_above = o.1; ended = refl }, o.2, o.3)) r

cons_tail : (a b : ℕ) (p q : List ℕ) → a ∷ p ≡ b ∷ q → p ≡ q
cons_tail a b p q e = cc

ended_same : (end : ℕ) → end < 48 → (m n : ℕ) (p q : List ℕ) → IsSmall m → IsSmall n → (decimal m ++ end ∷ []) ++ p ≡ (decimal n ++ end ∷ []) ++ q → (m ≡ n) × (p ≡ q)
ended_same end l m n p q i j e =
    let s = decimal-same m n end p q end (omega arith) (omega arith) l l (sym (append_assoc (decimal m) (end ∷ []) p) ∙ e ∙ append_assoc (decimal n) (end ∷ []) q) in
    (s.0, cons_tail end end p q s.1)

pub spaced-code : IsCode IsSmall spaced_number
spaced-code = record { same = λ m n p q i j e. ended_same space (omega arith) m n p q i j e }

abbrev pub lined_number : ℕ → List ℕ
lined_number n = decimal n ++ newline ∷ []

pub lined-code : IsCode IsSmall lined_number
lined-code = record { same = λ m n p q i j e. ended_same newline (omega arith) m n p q i j e }

pub lined-stop : (input : List ℕ) (left : ℕ) → Stopped (IsBetween 0 most_number) (field_text []) input left → Stopped IsSmall lined_number input left
lined-stop input left r = view-stop IsSmall lined_number (IsBetween 0 most_number) (field_text []) (λ n. n) (λ n. n) (λ n i. i.1) (λ n. refl) (λ n i. (omega arith, i)) (λ n. refl) input left r

-- a clause, a literal and a side
abbrev IsTwo : ℕ × FoSide → Type 0
IsTwo = IsPair IsSmall (IsAny {T = FoSide})

abbrev two_text : ℕ × FoSide → List ℕ
two_text = pair_text spaced_number (ended_side space)

abbrev IsThree : ℕ × (ℕ × FoSide) → Type 0
IsThree = IsPair IsSmall IsTwo

abbrev three_text : ℕ × (ℕ × FoSide) → List ℕ
three_text = pair_text spaced_number two_text

place_view : (input : List ℕ) (left : ℕ) → Stopped IsThree three_text input left → Stopped IsPlace place_word input left
place_view input left r =
    view-stop IsPlace place_word IsThree three_text (λ y. record { clause = y.0; literal = y.1.0; side = y.1.1 }) (λ x. (x.clause, (x.literal, x.side))) (λ y i. (i.0, i.1.0)) (λ y. refl) (λ x i. (i.0, (i.1, tt))) (λ x. refl) input left r

pub place-code : IsCode IsPlace place_word
place-code =
    view-code IsPlace place_word IsThree three_text (λ y. record { clause = y.0; literal = y.1.0; side = y.1.1 }) (λ x. (x.clause, (x.literal, x.side))) (λ x i. (i.0, (i.1, tt))) (λ x. refl) (λ x. refl)
    (pair-code IsSmall spaced_number IsTwo two_text spaced-code (pair-code IsSmall spaced_number (IsAny {T = FoSide}) (ended_side space) spaced-code (choice-code (ended_side space) (side-apart space))))

pub place-first : (input : List ℕ) (left : ℕ) → Stopped IsSmall spaced_number input left → Stopped IsPlace place_word input left
place-first input left r = place_view input left (pair-first IsSmall spaced_number IsTwo two_text (0, Left) (omega arith, tt) input left r)

pub place-second : (c : ℕ) (input one : List ℕ) (left : ℕ) → IsSmall c → input ≡ spaced_number c ++ one → Stopped IsSmall spaced_number one left → Stopped IsPlace place_word input left
place-second c input one left i e r = place_view input left (pair-then IsSmall spaced_number IsTwo two_text spaced-code c i input one left e (pair-first IsSmall spaced_number (IsAny {T = FoSide}) (ended_side space) Left tt one left r))

pub place-third : (c l : ℕ) (input one two : List ℕ) (left : ℕ) → IsSmall c → IsSmall l → input ≡ spaced_number c ++ one → one ≡ spaced_number l ++ two → Stopped (IsAny {T = FoSide}) (ended_side space) two left → Stopped IsPlace place_word input left
place-third c l input one two left i j e f r =
    place_view input left (pair-then IsSmall spaced_number IsTwo two_text spaced-code c i input one left e (pair-then IsSmall spaced_number (IsAny {T = FoSide}) (ended_side space) spaced-code l j one two left f r))

-- the first digit of a number
pub record HasDigit (n : ℕ) : Type 0 where
  pub first : ℕ
  pub others : List ℕ
  pub text_is : decimal n ≡ first ∷ others
  pub low : 48 ≤ first
  pub high : first ≤ 57

pub has_digit : (n : ℕ) → IsSmall n → HasDigit n
has_digit n i =
    let d = decimal-is n (omega arith) in
    let a = digit_of (decimal n) d.first d.others d.first_is d.digits in
    record { first = d.first; others = d.others; text_is = d.first_is; low = a.0; high = a.1 }
  where
    digit_of : (ds : List ℕ) (f : ℕ) (os : List ℕ) → ds ≡ f ∷ os → AllByRecursion IsDigit ds → (48 ≤ f) × (f ≤ 57)
    digit_of ds f os e a = (subst (AllByRecursion IsDigit) e a).0

no_letter : (n b : ℕ) (p z : List ℕ) → IsSmall n → 57 < b → b ∷ z ≡ decimal n ++ p → ⊥
no_letter n b p z i h e =
    let d = has_digit n i in
    let f : b ∷ z ≡ d.first ∷ (d.others ++ p) = e ∙ ap (λ u. u ++ p) d.text_is in
    let s : b ≡ d.first = cc in
    let l = d.high in
    omega arith

-- words of an instance
pub number-words : IsWordCode IsSmall decimal
number-words = record { same = λ m n p q i j lp lq e. same_number m n p q (omega arith) (omega arith) lp lq e }

words_same : (x y : FoWord) (p q : List ℕ) → IsWord x → IsWord y → IsLow p → IsLow q → word_text x ++ p ≡ word_text y ++ q → (x ≡ y) × (p ≡ q)
words_same (Number m) (Number n) p q i j lp lq e = let s = same_number m n p q (omega arith) (omega arith) lp lq e in (ap Number s.0, s.1)
words_same (Number m) (Var n) p q i j lp lq e = absurd (no_letter m 118 p (decimal n ++ q) i (omega arith) (sym e))
words_same (Number m) (Sym n) p q i j lp lq e = absurd (no_letter m 102 p (decimal n ++ q) i (omega arith) (sym e))
words_same (Var m) (Number n) p q i j lp lq e = absurd (no_letter n 118 q (decimal m ++ p) j (omega arith) e)
words_same (Var m) (Var n) p q i j lp lq e = let s = same_number m n p q (omega arith) (omega arith) lp lq (cons_tail 118 118 (decimal m ++ p) (decimal n ++ q) e) in (ap Var s.0, s.1)
words_same (Var m) (Sym n) p q i j lp lq e = absurd (omega (arith, ap first_byte e))
words_same (Sym m) (Number n) p q i j lp lq e = absurd (no_letter n 102 q (decimal m ++ p) j (omega arith) e)
words_same (Sym m) (Var n) p q i j lp lq e = absurd (omega (arith, ap first_byte e))
words_same (Sym m) (Sym n) p q i j lp lq e = let s = same_number m n p q (omega arith) (omega arith) lp lq (cons_tail 102 102 (decimal m ++ p) (decimal n ++ q) e) in (ap Sym s.0, s.1)

pub word-words : IsWordCode IsWord word_text
word-words = record { same = words_same }

or_end : (s b : ℕ) → IsEndByte s b → ((b == s) || (b == 10)) ≡ true
or_end s b (inl e) = first (b == s) (b == 10) (grind (arith, nat_tests))
  where
    first : (t u : Bool) → t ≡ true → (t || u) ≡ true
    first true u e = refl
    first false u e = cc
or_end s b (inr e) = last (b == s) (b == 10) (grind (arith, nat_tests))
  where
    last : (t u : Bool) → u ≡ true → (t || u) ≡ true
    last true u e = refl
    last false u e = e

point_or_line : (b : ℕ) → ((b == 46) || (b == 10)) ≡ true → (b ≡ 46) ⊎ (b ≡ 10)
point_or_line b h = go (b == 46) refl h
  where
    go : (t : Bool) → (b == 46) ≡ t → (t || (b == 10)) ≡ true → (b ≡ 46) ⊎ (b ≡ 10)
    go true e h = inl (grind (arith, nat_tests))
    go false e h = inr (grind (arith, nat_tests))

abbrev IsNext : ℕ × ℕ → Type 0
IsNext = IsNumberWord 0 most_number SpaceOrLine

abbrev IsEndedWord : FoWord × ℕ → Type 0
IsEndedWord = IsEnded 32 IsWord

var_back : (z : List ℕ) (w : FoWord) (b : ℕ) → IsWord w → IsEndByte 32 b → (p : List ℕ) → 118 ∷ z ≡ (word_text w ++ b ∷ []) ++ p → Opens IsNext number_word z
var_back z (Number n) b i j p e = absurd (no_letter n 118 (b ∷ p) z i (omega arith) (e ∙ append_assoc (decimal n) (b ∷ []) p))
var_back z (Var n) b i j p e = ((n, b), record { not_below = omega arith; not_above = i; ended = or_end 32 b j }, p, cons_tail 118 118 z ((decimal n ++ b ∷ []) ++ p) e)
var_back z (Sym n) b i j p e = absurd (omega (arith, ap first_byte e))

sym_back : (z : List ℕ) (w : FoWord) (b : ℕ) → IsWord w → IsEndByte 32 b → (p : List ℕ) → 102 ∷ z ≡ (word_text w ++ b ∷ []) ++ p → Opens IsNext number_word z
sym_back z (Number n) b i j p e = absurd (no_letter n 102 (b ∷ p) z i (omega arith) (e ∙ append_assoc (decimal n) (b ∷ []) p))
sym_back z (Var n) b i j p e = absurd (omega (arith, ap first_byte e))
sym_back z (Sym n) b i j p e = ((n, b), record { not_below = omega arith; not_above = i; ended = or_end 32 b j }, p, cons_tail 102 102 z ((decimal n ++ b ∷ []) ++ p) e)

number_back : (input z : List ℕ) (w : FoWord) (b : ℕ) → (StandsFirst 118 input → ⊥) → (StandsFirst 102 input → ⊥) → BeginAlike input z → IsWord w → IsEndByte 32 b → (p : List ℕ) → z ≡ (word_text w ++ b ∷ []) ++ p → Opens IsNext number_word z
number_back input z (Number n) b nv nf a i j p e = ((n, b), record { not_below = omega arith; not_above = i; ended = or_end 32 b j }, p, e)
number_back input z (Var n) b nv nf a i j p e = absurd (letter_back 118 input z ((decimal n ++ b ∷ []) ++ p) nv a e)
  where
    letter_back : (c : ℕ) (input z q : List ℕ) → (StandsFirst c input → ⊥) → BeginAlike input z → z ≡ c ∷ q → ⊥
    letter_back c [] z q n a e = cc
    letter_back c (x ∷ xs) [] q n a e = cc
    letter_back c (x ∷ xs) (y ∷ ys) q n a e = n (let f : y ≡ c = cc in sym a ∙ f)
number_back input z (Sym n) b nv nf a i j p e = absurd (letter_back 102 input z ((decimal n ++ b ∷ []) ++ p) nf a e)
  where
    letter_back : (c : ℕ) (input z q : List ℕ) → (StandsFirst c input → ⊥) → BeginAlike input z → z ≡ c ∷ q → ⊥
    letter_back c [] z q n a e = cc
    letter_back c (x ∷ xs) [] q n a e = cc
    letter_back c (x ∷ xs) (y ∷ ys) q n a e = n (let f : y ≡ c = cc in sym a ∙ f)

pub word-var : (input digits : List ℕ) (left : ℕ) → input ≡ 118 ∷ digits → Stopped (IsNumberWord 0 most_number SpaceOrLine) number_word digits left → Stopped (IsEnded 32 IsWord) (ended_text word_text) input left
word-var input digits left e r =
    refuses-same IsEndedWord (ended_text word_text) input (118 ∷ digits) left e (refuses-then IsEndedWord (ended_text word_text) IsNext number_word (118 ∷ []) digits left
    (λ w i. ([], ((Var w.0, w.1), (i.not_above, space_or_line w.1 i.ended), ap (λ u. 118 ∷ u) (append-nil (number_word w)))))
    (λ z o. var_back z o.0.0 o.0.1 o.1.0 o.1.1 o.2 o.3) r)

pub word-sym : (input digits : List ℕ) (left : ℕ) → input ≡ 102 ∷ digits → Stopped (IsNumberWord 0 most_number SpaceOrLine) number_word digits left → Stopped (IsEnded 32 IsWord) (ended_text word_text) input left
word-sym input digits left e r =
    refuses-same IsEndedWord (ended_text word_text) input (102 ∷ digits) left e (refuses-then IsEndedWord (ended_text word_text) IsNext number_word (102 ∷ []) digits left
    (λ w i. ([], ((Sym w.0, w.1), (i.not_above, space_or_line w.1 i.ended), ap (λ u. 102 ∷ u) (append-nil (number_word w)))))
    (λ z o. sym_back z o.0.0 o.0.1 o.1.0 o.1.1 o.2 o.3) r)

pub word-number : (input : List ℕ) (left : ℕ) → (StandsFirst 118 input → ⊥) → (StandsFirst 102 input → ⊥) → Stopped (IsNumberWord 0 most_number SpaceOrLine) number_word input left → Stopped (IsEnded 32 IsWord) (ended_text word_text) input left
word-number input left nv nf r =
    refuses-part IsEndedWord (ended_text word_text) IsNext number_word input left
    (λ w i. ([], ((Number w.0, w.1), (i.not_above, space_or_line w.1 i.ended), append-nil (number_word w))))
    (λ z a o. number_back input z o.0.0 o.0.1 nv nf a o.1.0 o.1.1 o.2 o.3) r

-- paths
path_same : (x y p q : List ℕ) → IsPath x → IsPath y → path_text x ++ p ≡ path_text y ++ q → (x ≡ y) × (p ≡ q)
path_same [] [] p q i j e = (refl, append-cancel (101 ∷ 10 ∷ []) p q e)
path_same [] (n ∷ ns) p q i j e = absurd (no_letter n 101 (tail_text point decimal ns ++ q) (10 ∷ p) j.0 (omega arith) (e ∙ append_assoc (decimal n) (tail_text point decimal ns) q))
path_same (m ∷ ms) [] p q i j e = absurd (no_letter m 101 (tail_text point decimal ms ++ p) (10 ∷ q) i.0 (omega arith) (sym e ∙ append_assoc (decimal m) (tail_text point decimal ms) p))
path_same (m ∷ ms) (n ∷ ns) p q i j e =
    let s = (line-code point IsSmall decimal number-words (omega arith) (λ h. absurd cc)).same (m, ms) (n, ns) p q (i.0, i.1) (j.0, j.1) e in
    (ap (λ (l : ℕ × List ℕ). l.0 ∷ l.1) s.0, s.1)

pub path-code : IsCode IsPath path_text
path-code = record { same = path_same }

path_word_back : (input z tail : List ℕ) → input ≡ 101 ∷ tail → BeginAlike input z → (x p : List ℕ) → IsPath x → z ≡ path_text x ++ p → Opens IsKeyword (keyword_text (101 ∷ 10 ∷ [])) z
path_word_back input z tail e a [] p i h = (tt, tt, p, h)
path_word_back input z tail e a (n ∷ ns) p i h = absurd (other z (subst (λ u. BeginAlike u z) e a) (h ∙ append_assoc (decimal n) (tail_text point decimal ns) p))
  where
    other : (z : List ℕ) → StandsFirst 101 z → z ≡ decimal n ++ (tail_text point decimal ns ++ p) → ⊥
    other [] a f = a
    other (b ∷ bs) a f = no_letter n b (tail_text point decimal ns ++ p) bs i.0 (let g : b ≡ 101 = a in omega arith) f

pub path-word : (input tail : List ℕ) (left : ℕ) → input ≡ 101 ∷ tail → Stopped IsKeyword (keyword_text (101 ∷ 10 ∷ [])) input left → Stopped IsPath path_text input left
path-word input tail left e r =
    refuses-part IsPath path_text IsKeyword (keyword_text (101 ∷ 10 ∷ [])) input left (λ u k. ([], ([], tt, refl))) (λ z a o. path_word_back input z tail e a o.0 o.2 o.1 o.3) r

path_numbers_back : (input z : List ℕ) → (StandsFirst 101 input → ⊥) → BeginAlike input z → (x p : List ℕ) → IsPath x → z ≡ path_text x ++ p → Opens (IsLine IsSmall) (line_text point decimal) z
path_numbers_back [] z n a [] p i h = absurd (let f : [] ≡ 101 ∷ 10 ∷ p = sym a ∙ h in cc)
path_numbers_back (b ∷ bs) [] n a [] p i h = absurd cc
path_numbers_back (b ∷ bs) (c ∷ z) n a [] p i h = absurd (n (let f : c ≡ 101 = cc in sym a ∙ f))
path_numbers_back input z n a (m ∷ ms) p i h = ((m, ms), (i.0, i.1), p, h)

path_view : (input : List ℕ) (left : ℕ) → (StandsFirst 101 input → ⊥) → Stopped (IsLine IsSmall) (line_text point decimal) input left → Stopped IsPath path_text input left
path_view input left n r =
    refuses-part IsPath path_text (IsLine IsSmall) (line_text point decimal) input left (λ l i. ([], (l.0 ∷ l.1, (i.0, i.1), append-nil (line_text point decimal l)))) (λ z a o. path_numbers_back input z n a o.0 o.2 o.1 o.3) r

pub path-first : (input : List ℕ) (left : ℕ) → (StandsFirst 101 input → ⊥) → Stopped (IsNumberWord 0 most_number DotOrLine) number_word input left → Stopped IsPath path_text input left
path-first input left n r = path_view input left n (line-first point IsSmall decimal 0 (omega arith) DotOrLine (omega arith) (λ m b h. point_or_line b h) (λ m b h. or_end 46 b h) input left r)

pub path-next : (n : ℕ) (ns : List ℕ) (whole input : List ℕ) (left : ℕ) → (StandsFirst 101 whole → ⊥) → IsSmall n → IsPath ns → whole ≡ (decimal n ++ (parted point decimal ns ++ point ∷ [])) ++ input → Stopped (IsNumberWord 0 most_number DotOrLine) number_word input left → Stopped IsPath path_text whole left
path-next n ns whole input left other i j e r =
    path_view whole left other (refuses-same (IsLine IsSmall) (line_text point decimal) whole ((decimal n ++ (parted point decimal ns ++ point ∷ [])) ++ input) left e (line-next point IsSmall decimal number-words (omega arith) (λ h. absurd cc) n ns input left i j
    (refuses-then (IsEnded point IsSmall) (ended_text decimal) (IsNumberWord 0 most_number DotOrLine) number_word [] input left
    (λ w k. ([], (w, (k.not_above, point_or_line w.1 k.ended), append-nil (number_word w))))
    (λ z o. (o.0, record { not_below = omega arith; not_above = o.1.0; ended = or_end 46 o.0.1 o.1.1 }, o.2, o.3)) r)))

-- the line of an instance
pub instance-first : (input : List ℕ) (left : ℕ) → Stopped (IsNumberWord 0 most_number SpaceOrLine) number_word input left → Stopped (IsLine IsWord) (line_text space word_text) input left
instance-first input left r = line-first space IsWord word_text (Number 0) (omega arith) SpaceOrLine (omega arith) (λ m b h. space_or_line b h) (λ m b h. or_end 32 b h) input left r

pub instance-next : (n : ℕ) (ws : List FoWord) (whole input : List ℕ) (left : ℕ) → IsSmall n → AllByRecursion IsWord ws → whole ≡ (decimal n ++ (parted space word_text ws ++ space ∷ [])) ++ input → Stopped (IsEnded 32 IsWord) (ended_text word_text) input left → Stopped (IsLine IsWord) (line_text space word_text) whole left
instance-next n ws whole input left i j e r =
    refuses-same (IsLine IsWord) (line_text space word_text) whole ((decimal n ++ (parted space word_text ws ++ space ∷ [])) ++ input) left e (line-next space IsWord word_text word-words (omega arith) (λ h. absurd cc) n ws input left i j r)
