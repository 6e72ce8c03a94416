-- Texts that are cut into words, by what stands behind them.
use Rattle.std.proofs.Common.{ℕ, zero, suc, ◌≡◌, ◌≢◌, ◌/◌, ◌%◌, ◌<◌, ◌==◌, Bool, true, false, not, cond, nat_eq, ◌||◌, ◌&&◌, List, [], ◌∷◌, ◌++◌, refl, arith}
use Rattle.std.specs.Prelude.{codes, decimal}
use Rattle.std.specs.List.{flat_map, list_all}
use Rattle.std.specs.Fmt.{digits, digits_onto, digit_glyph}
use Rattle.std.proofs.lemmas.Bool.Decides.{nat_tests}
use Rattle.leo_lex.specs.declared.mark.Mark.{Mark}
use Rattle.leo_lex.specs.declared.mark.Mark.TheVariants as mark
use Rattle.leo_lex.specs.declared.token.Kind.{Kind}
use Rattle.leo_lex.specs.declared.token.Kind.TheVariants.{Lower, Upper, Dollar, Quoted, Number, Mark as MarkToken}
use Rattle.leo_lex.specs.Bytes.{is_lower, is_upper, is_digit, is_word, is_blank, is_point, is_exponent, is_plain, is_escaped, single_quote}
use Rattle.leo_lex.specs.Forms.{Each, IsWord, IsDigits, IsContent, empty, plain, escape}
use Rattle.leo_lex.specs.Marks.{spelling}
use Rattle.leo_lex.specs.Spaced.{IsWritten}
use Rattle.leo_lex.specs.Spells.{Spells, nothing, blank, word, ends, ends_word, ends_digits, is_longest}
use Rattle.leo_tstp.specs.Atoms.{is_shown, IsAtom}
use Rattle.leo_tstp.specs.Words.{escaped, in_quotes, atom_text, is_lower_word}

-- ---- what may stand behind a word

-- neither a word nor a number goes on with the byte
abbrev pub stops : ℕ → Bool
stops b = not (is_word b) && not (is_digit b || (is_point b || is_exponent b))

-- words, before which a word and a number end
pub record Tail (rest : List ℕ) (words : List (List ℕ)) : Type 0 where
  pub spells : Spells rest words
  pub word_ends : ends_word rest ≡ true
  pub digits_end : ends_digits rest ≡ true

both-true : (a b : Bool) → (a && b) ≡ true → (a ≡ true) × (b ≡ true)
both-true true true e = (refl, refl)
both-true true false e = absurd (cc)
both-true false b e = absurd (cc)

tail-of : {b : ℕ} {rest : List ℕ} {words : List (List ℕ)} → stops b ≡ true → Spells (b ∷ rest) words → Tail (b ∷ rest) words
unfolding ends_word ends_digits
tail-of {b} e s = let h = both-true (not (is_word b)) _ e in record { spells = s; word_ends = h.0; digits_end = h.1 }

pub no_tail : Tail [] []
unfolding ends_word ends_digits
no_tail = record { spells = nothing; word_ends = refl; digits_end = refl }

pub space : {rest : List ℕ} {words : List (List ℕ)} → Spells rest words → Tail (32 ∷ rest) words
unfolding is_blank is_word is_digit is_point is_exponent
space s = tail-of refl (blank refl s)

-- the end of a line
pub line-end : {rest : List ℕ} {words : List (List ℕ)} → Spells rest words → Spells (10 ∷ rest) words
unfolding is_blank
line-end s = blank refl s

-- a mark that no longer one begins with
pub longest : {rest : List ℕ} {words : List (List ℕ)} (m : Mark) → is_longest m ≡ true → Spells rest words → Spells (spelling m ++ rest) (spelling m ∷ words)
longest m e s = word (MarkToken m) refl refl (rw e refl) s

or-true : (a : Bool) → (a || true) ≡ true
or-true true = refl
or-true false = refl

-- a mark with a space behind it
pub spaced : {rest : List ℕ} {words : List (List ℕ)} (m : Mark) → Spells rest words → Spells (spelling m ++ 32 ∷ rest) (spelling m ∷ words)
spaced m s = word (MarkToken m) refl refl (or-true (is_longest m)) (space s).spells

pub opens : {rest : List ℕ} {words : List (List ℕ)} → Spells rest words → Tail (40 ∷ rest) (codes "(" ∷ words)
unfolding is_word is_digit is_point is_exponent
opens s = tail-of refl (longest mark.OpenRound refl s)

pub closes : {rest : List ℕ} {words : List (List ℕ)} → Spells rest words → Tail (41 ∷ rest) (codes ")" ∷ words)
unfolding is_word is_digit is_point is_exponent
closes s = tail-of refl (longest mark.CloseRound refl s)

pub opens-list : {rest : List ℕ} {words : List (List ℕ)} → Spells rest words → Tail (91 ∷ rest) (codes "[" ∷ words)
unfolding is_word is_digit is_point is_exponent
opens-list s = tail-of refl (longest mark.OpenSquare refl s)

pub closes-list : {rest : List ℕ} {words : List (List ℕ)} → Spells rest words → Tail (93 ∷ rest) (codes "]" ∷ words)
unfolding is_word is_digit is_point is_exponent
closes-list s = tail-of refl (longest mark.CloseSquare refl s)

pub comma : {rest : List ℕ} {words : List (List ℕ)} → Spells rest words → Tail (44 ∷ rest) (codes "," ∷ words)
unfolding is_word is_digit is_point is_exponent
comma s = tail-of refl (longest mark.Comma refl s)

pub dot : {rest : List ℕ} {words : List (List ℕ)} → Spells rest words → Spells (46 ∷ rest) (codes "." ∷ words)
dot s = longest mark.Dot refl s

-- a colon with a space behind it
pub colon : {rest : List ℕ} {words : List (List ℕ)} → Spells rest words → Tail (58 ∷ 32 ∷ rest) (codes ":" ∷ words)
unfolding is_word is_digit is_point is_exponent
colon s = tail-of refl (spaced mark.Colon s)

-- ---- words

-- a text that is a word wherever words end
pub record IsWordText (text : List ℕ) : Type 0 where
  pub kind : Kind
  pub written : IsWritten kind text
  pub ended : (rest : List ℕ) → ends_word rest ≡ true → ends kind rest ≡ true

pub lower : (text : List ℕ) → IsWord is_lower text → IsWordText text
lower text h = record { kind = Lower; written = h; ended = λ rest e. e }

pub upper : (text : List ℕ) → IsWord is_upper text → IsWordText text
upper text h = record { kind = Upper; written = h; ended = λ rest e. e }

pub dollar-word : (text : List ℕ) → IsWord is_lower text → IsWordText (36 ∷ text)
dollar-word text h = record { kind = Dollar; written = (text, h, refl); ended = λ rest e. e }

pub put : {text rest : List ℕ} {words : List (List ℕ)} → IsWordText text → Tail rest words → Spells (text ++ rest) (text ∷ words)
put h t = word h.kind h.written refl (h.ended _ t.word_ends) t.spells

pub number : {text rest : List ℕ} {words : List (List ℕ)} → IsDigits text → Tail rest words → Spells (text ++ rest) (text ∷ words)
number h t = word Number h refl t.digits_end t.spells

-- ---- which texts are words

pub all-each : (test : ℕ → Bool) (bs : List ℕ) → list_all test bs ≡ true → Each test bs
all-each test [] e = tt
all-each test (b ∷ bs) e = let h = both-true (test b) _ e in (h.0, all-each test bs h.1)

pub lower-word : (text : List ℕ) → is_lower_word text ≡ true → IsWord is_lower text
unfolding is_lower_word
lower-word [] e = absurd (cc)
lower-word (b ∷ bs) e = let h = both-true (is_lower b) _ e in (h.0, all-each is_word bs h.1)

marked : (b : ℕ) → (nat_eq b 39 || nat_eq b 92) ≡ true → is_escaped single_quote b ≡ true
unfolding is_escaped
marked b f = f

bare : (b : ℕ) → is_shown b ≡ true → (nat_eq b 39 || nat_eq b 92) ≡ false → is_plain single_quote b ≡ true
unfolding is_plain
bare b e f = grind (arith, nat_tests)

escaped-one : (b : ℕ) (bs : List ℕ) → is_shown b ≡ true → IsContent single_quote bs → IsContent single_quote (escaped b ++ bs)
escaped-one b bs e h = by (nat_eq b 39 || nat_eq b 92) refl
  where
    by : (t : Bool) → (nat_eq b 39 || nat_eq b 92) ≡ t → IsContent single_quote (cond t (92 ∷ b ∷ []) (b ∷ []) ++ bs)
    by true f = escape (marked b f) h
    by false f = plain (bare b e f) h

escaped-content : (bs : List ℕ) → Each is_shown bs → IsContent single_quote (flat_map escaped bs)
escaped-content [] h = empty
escaped-content (b ∷ bs) h = escaped-one b (flat_map escaped bs) h.0 (escaped-content bs h.1)

escaped-some : (b : ℕ) (bs : List ℕ) → escaped b ++ bs ≢ []
escaped-some b bs = by (nat_eq b 39 || nat_eq b 92)
  where
    by : (t : Bool) → cond t (92 ∷ b ∷ []) (b ∷ []) ++ bs ≢ []
    by true e = cc
    by false e = cc

quoted-some : (b : ℕ) (bs : List ℕ) → Each is_shown (b ∷ bs) → IsWordText (in_quotes (b ∷ bs))
unfolding in_quotes
quoted-some b bs h =
    record { kind = Quoted; written = (flat_map escaped (b ∷ bs), escaped-content (b ∷ bs) h, escaped-some b (flat_map escaped bs), refl); ended = λ rest e. refl }

pub quoted : (text : List ℕ) → IsAtom text → IsWordText (in_quotes text)
quoted [] h = absurd h
quoted (b ∷ bs) h = quoted-some b bs h

pub atom-word : (atom : List ℕ) → IsAtom atom → IsWordText (atom_text atom)
unfolding atom_text
atom-word atom h = by (is_lower_word atom) refl
  where
    by : (t : Bool) → is_lower_word atom ≡ t → IsWordText (cond t atom (in_quotes atom))
    by true e = lower atom (lower-word atom e)
    by false e = quoted atom h

-- ---- numbers

glyph-digit : (n : ℕ) → is_digit (digit_glyph false (n % 10)) ≡ true
unfolding is_digit
glyph-digit n =
    let l : n % 10 < 10 = omega arith in
    grind (arith, nat_tests, l)

digits-each : (ds : List ℕ) → IsDigits ds → Each is_digit ds
digits-each [] h = absurd h
digits-each (d ∷ ds) h = h

more-digits : (n : ℕ) (acc : List ℕ) → Each is_digit acc → IsDigits (digit_glyph false (n % 10) ∷ acc)
more-digits n acc h = (glyph-digit n, h)

digits-on : (k n : ℕ) (acc : List ℕ) → IsDigits acc → IsDigits (digits_onto k 10 false n acc)
digits-on zero n acc h = h
digits-on (suc k) n acc h = by (n / 10 == 0) (digits-on k (n / 10) (digit_glyph false (n % 10) ∷ acc) (more-digits n acc (digits-each acc h)))
  where
    by : (t : Bool) → IsDigits (digits_onto k 10 false (n / 10) (digit_glyph false (n % 10) ∷ acc))
        → IsDigits (cond t (digit_glyph false (n % 10) ∷ acc) (digits_onto k 10 false (n / 10) (digit_glyph false (n % 10) ∷ acc)))
    by true g = more-digits n acc (digits-each acc h)
    by false g = g

some-digits : (k n : ℕ) → IsDigits (digits_onto (suc k) 10 false n [])
some-digits k n = by (n / 10 == 0)
  where
    by : (t : Bool) → IsDigits (cond t (digit_glyph false (n % 10) ∷ []) (digits_onto k 10 false (n / 10) (digit_glyph false (n % 10) ∷ [])))
    by true = more-digits n [] tt
    by false = digits-on k (n / 10) (digit_glyph false (n % 10) ∷ []) (more-digits n [] tt)

pub decimal-digits : (n : ℕ) → IsDigits (decimal n)
unfolding digits
decimal-digits n = some-digits 63 n

digit-word : (b : ℕ) → is_digit b ≡ true → is_word b ≡ true
unfolding is_digit is_word
digit-word b e = rw e (or-true _)

digits-word : (ds : List ℕ) → Each is_digit ds → Each is_word ds
digits-word [] h = tt
digits-word (d ∷ ds) h = (digit-word d h.0, digits-word ds h.1)

pub decimal-word : (n : ℕ) → Each is_word (decimal n)
decimal-word n = digits-word (decimal n) (digits-each (decimal n) (decimal-digits n))

-- a letter with a number
pub numbered-upper : (letter n : ℕ) → is_upper letter ≡ true → IsWordText (letter ∷ decimal n)
numbered-upper letter n e = upper (letter ∷ decimal n) (e, decimal-word n)

pub numbered-lower : (letter n : ℕ) → is_lower letter ≡ true → IsWordText (letter ∷ decimal n)
numbered-lower letter n e = lower (letter ∷ decimal n) (e, decimal-word n)
