-- A token is found as it is where what stands behind it ends it.
use Rattle.std.proofs.Common.{◌≡◌, ◌≢◌, ℕ, suc, ◌+◌, ◌<◌, Bool, true, false, not, ◌||◌, ltb, List, [], ◌∷◌, ◌++◌, length, Some, refl, ap, sym, ◌∙◌, add-one, append-nil, arith, inl, inr}
use Rattle.std.proofs.lemmas.Bool.Decides.{nat_tests}
use Rattle.leo_lex.specs.declared.mark.Mark.{Mark}
use Rattle.leo_lex.specs.declared.mark.Mark.TheVariants.{LongArrow, ImpliedBy, Colon, At, ForAll, Exists, Not, Equal, Plus, Minus, Less}
use Rattle.leo_lex.specs.declared.token.Kind.{Kind}
use Rattle.leo_lex.specs.declared.token.Kind.TheVariants.{Lower, Upper, Dollar, System, Quoted, Distinct, Number, Mark as MarkToken}
use Rattle.leo_lex.specs.Marks.{spelling}
use Rattle.leo_lex.specs.Bytes.{is_lower, is_upper, is_digit, is_sign, is_point, is_exponent, is_word, dollar, single_quote, double_quote}
use Rattle.leo_lex.specs.Forms.{Each, IsWord, IsDigits, IsContent, IsToken}
use Rattle.leo_lex.specs.Cut.{token, Begins}
use Rattle.leo_lex.specs.Lengths.{run, lower_len, number_len, number_or_mark_at, mark_at, token_at}
use Rattle.leo_lex.specs.Spaced.{IsWritten}
use Rattle.leo_lex.specs.Spells.{ends_word, ends_digits, ends_mark, is_longest, ends}
use Rattle.leo_lex.proofs.Runs.{run_yes, run_no, run_front, or_false}
use Rattle.leo_lex.proofs.Words.{word_from_lower, word_from_upper, longer_is}
use Rattle.leo_lex.proofs.Quotes.{closed_inside}
use Rattle.leo_lex.proofs.Numbers.{digits_alone, digits_last, not_sign_digit}
use Rattle.leo_lex.proofs.Pieces.{token_within, upper_not_lower, lower_not_dollar, some_is, number_at, digit_other, content_some, quoted_shape, quoted_len, begins_token}

is_not : (t : Bool) → not t ≡ true → t ≡ false
is_not true h = absurd cc
is_not false h = refl

word_stops : (rest : List ℕ) → ends_word rest ≡ true → run is_word rest ≡ 0
unfolding ends_word run
word_stops [] h = refl
word_stops (b ∷ bs) h = run_no is_word b bs (is_not (is_word b) h)

word_exact : (b : ℕ) (bs rest : List ℕ) → is_word b ≡ true → Each is_word bs → ends_word rest ≡ true → run is_word (b ∷ (bs ++ rest)) ≡ suc (length bs)
word_exact b bs rest w each e = rw (run_yes is_word b (bs ++ rest) w, run_front is_word bs rest each, word_stops rest e) (omega arith)

lower_exact : (text rest : List ℕ) → IsWord is_lower text → ends_word rest ≡ true → token_at (text ++ rest) ≡ Some (Lower, length text)
unfolding token_at
lower_exact [] rest h e = absurd h
lower_exact (b ∷ bs) rest h e = rw (h.0, word_exact b bs rest (word_from_lower b h.0) h.1 e) refl

upper_exact : (text rest : List ℕ) → IsWord is_upper text → ends_word rest ≡ true → token_at (text ++ rest) ≡ Some (Upper, length text)
unfolding token_at
upper_exact [] rest h e = absurd h
upper_exact (b ∷ bs) rest h e = rw (upper_not_lower b h.0, h.0, word_exact b bs rest (word_from_upper b h.0) h.1 e) refl

lower_len_exact : (text rest : List ℕ) → IsWord is_lower text → ends_word rest ≡ true → (lower_len (text ++ rest) ≡ length text) × (0 < length text)
lower_len_exact [] rest h e = absurd h
lower_len_exact (b ∷ bs) rest h e = (rw (h.0, word_exact b bs rest (word_from_lower b h.0) h.1 e) refl, omega arith)

dollar_exact : (word rest : List ℕ) → IsWord is_lower word → ends_word rest ≡ true → token_at (dollar ∷ (word ++ rest)) ≡ Some (Dollar, suc (length word))
unfolding token_at is_lower is_upper
dollar_exact [] rest h e = absurd h
dollar_exact (b ∷ bs) rest h e =
    let l = lower_len_exact (b ∷ bs) rest h e in
    rw (lower_not_dollar b h.0, l.0, longer_is (suc (length bs)) 1 (omega arith), add-one) (some_is Dollar (suc (suc (length bs))) (omega arith))

system_exact : (word rest : List ℕ) → IsWord is_lower word → ends_word rest ≡ true → token_at (dollar ∷ dollar ∷ (word ++ rest)) ≡ Some (System, suc (suc (length word)))
unfolding token_at is_lower is_upper
system_exact word rest h e =
    let l = lower_len_exact word rest h e in
    let len : length word + 2 ≡ suc (suc (length word)) = omega arith in
    rw (l.0, longer_is (length word) 2 l.1, len) (some_is System (suc (suc (length word))) (omega arith))

-- ---- marks

mark_last : (m : Mark) → token_at (spelling m ++ []) ≡ Some (MarkToken m, length (spelling m))
unfolding token_at number_or_mark_at mark_at run is_lower is_upper is_digit is_sign
mark_last LongArrow = refl
mark_last _ = refl

mark_spaced : (m : Mark) (rest : List ℕ) → token_at (spelling m ++ 32 ∷ rest) ≡ Some (MarkToken m, length (spelling m))
unfolding token_at number_or_mark_at mark_at run is_lower is_upper is_digit is_sign
mark_spaced LongArrow rest = refl
mark_spaced _ rest = refl

mark_longest : (m : Mark) (rest : List ℕ) → is_longest m ≡ true → token_at (spelling m ++ rest) ≡ Some (MarkToken m, length (spelling m))
unfolding token_at number_or_mark_at mark_at run is_lower is_upper is_digit is_sign
mark_longest ImpliedBy rest h = absurd cc
mark_longest Colon rest h = absurd cc
mark_longest At rest h = absurd cc
mark_longest ForAll rest h = absurd cc
mark_longest Exists rest h = absurd cc
mark_longest Not rest h = absurd cc
mark_longest Equal rest h = absurd cc
mark_longest Plus rest h = absurd cc
mark_longest Minus rest h = absurd cc
mark_longest Less rest h = absurd cc
mark_longest _ rest h = refl

mark_before : (m : Mark) (rest : List ℕ) → ends_mark rest ≡ true → token_at (spelling m ++ rest) ≡ Some (MarkToken m, length (spelling m))
mark_before m [] h = mark_last m
mark_before m (b ∷ bs) h = let is : b ≡ 32 = grind (arith, nat_tests) in rw is (mark_spaced m bs)

one_of : (s t : Bool) → (s || t) ≡ true → s ≡ false → t ≡ true
one_of true t h e = absurd cc
one_of false t h e = h

mark_exact : (m : Mark) (rest : List ℕ) → (is_longest m || ends_mark rest) ≡ true → token_at (spelling m ++ rest) ≡ Some (MarkToken m, length (spelling m))
mark_exact m rest h = elim (or_false (is_longest m)) [ inl t ↦ mark_longest m rest t | inr f ↦ mark_before m rest (one_of (is_longest m) (ends_mark rest) h f) ]

-- ---- numbers and quoted texts

neither : (s t u : Bool) → not (s || (t || u)) ≡ true → (s ≡ false) × (t ≡ false) × (u ≡ false)
neither true t u h = absurd cc
neither false true u h = absurd cc
neither false false true h = absurd cc
neither false false false h = (refl, refl, refl)

digits_exact : (text rest : List ℕ) → IsDigits text → ends_digits rest ≡ true → number_len (text ++ rest) ≡ length text
unfolding ends_digits
digits_exact text [] h e = rw (append-nil text) (digits_last text h)
digits_exact text (y ∷ rest) h e = let n = neither (is_digit y) (is_point y) (is_exponent y) e in digits_alone text y rest h n.0 n.1 n.2

number_exact : (text rest : List ℕ) → IsDigits text → ends_digits rest ≡ true → token_at (text ++ rest) ≡ Some (Number, length text)
number_exact [] rest h e = absurd h
number_exact (b ∷ bs) rest h e =
    let len = digits_exact (b ∷ bs) rest h e in
    number_at b (bs ++ rest) (digit_other b h.0) (omega (arith, len)) ∙ ap (λ n. Some (Number, n)) len

quoted_exact : (content rest : List ℕ) → IsContent single_quote content → content ≢ [] → token_at (single_quote ∷ (content ++ single_quote ∷ rest)) ≡ Some (Quoted, length content + 2)
unfolding token_at is_lower is_upper
quoted_exact content rest h some =
    let len = closed_inside single_quote content rest (λ e. omega (arith, e)) h in
    let long : ltb (length content + 1) 2 ≡ false = let s = content_some content some in grind (arith, nat_tests) in
    let two : length content + 1 + 1 ≡ length content + 2 = omega arith in
    rw (len, long) (ap (λ n. Some (Quoted, n)) two)

distinct_exact : (content rest : List ℕ) → IsContent double_quote content → token_at (double_quote ∷ (content ++ double_quote ∷ rest)) ≡ Some (Distinct, length content + 2)
unfolding token_at is_lower is_upper
distinct_exact content rest h =
    let len = closed_inside double_quote content rest (λ e. omega (arith, e)) h in
    let two : length content + 1 + 1 ≡ length content + 2 = omega arith in
    rw (len, longer_is (length content + 1) 1 (omega arith), two) (some_is Distinct (length content + 2) (omega arith))

exact : (kind : Kind) (text rest : List ℕ) → IsWritten kind text → ends kind rest ≡ true → token_at (text ++ rest) ≡ Some (kind, length text)
exact Lower text rest h e = lower_exact text rest h e
exact Upper text rest h e = upper_exact text rest h e
exact Dollar text rest h e = rw h.2 (dollar_exact h.0 rest h.1 e)
exact System text rest h e = rw h.2 (system_exact h.0 rest h.1 e)
exact Quoted text rest h e = rw (h.3, quoted_shape single_quote h.0 rest, quoted_len single_quote h.0) (quoted_exact h.0 rest h.1 h.2)
exact Distinct text rest h e = rw (h.2, quoted_shape double_quote h.0 rest, quoted_len double_quote h.0) (distinct_exact h.0 rest h.1)
exact Number text rest h e = number_exact text rest h e
exact (MarkToken m) text rest h e = rw h (mark_exact m rest e)

-- ---- the longest piece

digits_number : (text : List ℕ) → IsDigits text → IsToken Number text
digits_number [] h = absurd h
digits_number (b ∷ bs) h = rw (not_sign_digit b h.0) (record { digits = b ∷ bs; part = []; exponent = []; text_is = sym (append-nil (b ∷ bs)); are_digits = h; is_part = tt; is_exponent = tt })

written_token : (kind : Kind) (text : List ℕ) → IsWritten kind text → IsToken kind text
written_token Lower text h = h
written_token Upper text h = h
written_token Dollar text h = h
written_token System text h = h
written_token Quoted text h = h
written_token Distinct text h = h
written_token Number text h = digits_number text h
written_token (MarkToken m) text h = h

-- the token begins there, and none that is longer
pub token_begins : (kind : Kind) (text rest : List ℕ) → IsWritten kind text → ends kind rest ≡ true → Begins (text ++ rest) (token kind) (length text)
token_begins kind text rest h e =
    let w = token_within kind text rest (written_token kind text h) in
    (begins_token (text ++ rest) kind (length text) w.no_gap (exact kind text rest h e)).0
