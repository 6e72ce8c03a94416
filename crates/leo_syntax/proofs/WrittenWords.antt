-- Texts that are made of words, and what their tokens say.
use Rattle.std.proofs.Common.{◌≡◌, ◌⊎◌, ℕ, suc, ◌+◌, ◌-◌, Bool, true, false, List, [], ◌∷◌, ◌++◌, length, take, refl, ap, sym, subst, append_assoc, inl, inr, arith}
use Rattle.std.specs.Prelude.{codes, Option, Some, ◌==◌, ◌≢◌, ◌&&◌, ◌||◌, not, nat_le}
use Rattle.std.specs.List.{list_all}
use Rattle.leo_lex.specs.declared.mark.Mark.{Mark}
use Rattle.leo_lex.specs.declared.mark.Mark.TheVariants as mark
use Rattle.leo_lex.specs.declared.token.Kind.{Kind}
use Rattle.leo_lex.specs.declared.token.Kind.TheVariants as kind
use Rattle.leo_lex.specs.Bytes.{is_lower, is_word, is_digit, is_plain, is_escaped, single_quote, backslash}
use Rattle.leo_lex.specs.Marks.{spelling}
use Rattle.leo_lex.specs.Forms.{Each, IsContent, empty, plain, escape, IsDigits, IsToken}
use Rattle.leo_lex.specs.Spaced.{Word, IsWritten, AreWords, spaced}
use Rattle.leo_syntax.specs.Classes.{class_by, mark_class}
use Rattle.leo_syntax.specs.declared.classes.Says.TheVariants as says
use Rattle.leo_syntax.specs.Lexemes.{Lexeme, Ahead, is_mark_kind, same_mark, said_by, unescaped, inner, content, are_digits, atom_of, name_of, upper_of, lower_of, quoted_of}
use Rattle.leo_syntax.specs.Grammar.{Takes, Says, Passes}
use Rattle.leo_syntax.specs.Texts.{word, is_hidden, escaped, quoted, is_bare, atom_text, is_number, name_text}

-- ---- words at the front of what is ahead

pub record IsNext (k : Kind) (text : List ℕ) (ls rest : Ahead) : Type 0 where
  pub token : Lexeme
  pub ahead_is : ls ≡ token ∷ rest
  pub kind_is : token.kind ≡ k
  pub text_is : token.text ≡ text

abbrev pub Spells : List Word → Ahead → Ahead → Type 0
Spells [] ls rest = ls ≡ rest
Spells (w ∷ ws) ls rest = (more : Ahead) × IsNext w.kind w.text ls more × Spells ws more rest

spells_split : (ws vs : List Word) (ls rest : Ahead) → Spells (ws ++ vs) ls rest → (mid : Ahead) × Spells ws ls mid × Spells vs mid rest
spells_split [] vs ls rest h = (ls, refl, h)
spells_split (w ∷ ws) vs ls rest h = let s = spells_split ws vs h.0 rest h.2 in (s.0, (h.0, h.1, s.1), s.2)

spaced_append : (ws vs : List Word) → spaced (ws ++ vs) ≡ spaced ws ++ spaced vs
spaced_append [] vs = refl
spaced_append (w ∷ ws) vs = rw (spaced_append ws vs) (sym (append_assoc w.text (32 ∷ spaced ws) (spaced vs)))

are_words_append : (ws vs : List Word) → AreWords ws → AreWords vs → AreWords (ws ++ vs)
are_words_append [] vs h k = k
are_words_append (w ∷ ws) vs h k = (h.0, are_words_append ws vs h.1 k)

-- the text is of words, and what is so of each list of lexemes at whose front they stand
pub record IsText (text : List ℕ) (P : Ahead → Ahead → Type 0) : Type 0 where
  pub words : List Word
  pub text_is : text ≡ spaced words
  pub good : AreWords words
  pub reads : (ls rest : Ahead) → Spells words ls rest → P ls rest

pub text_none : IsText [] (λ ls rest. ls ≡ rest)
text_none = record { words = []; text_is = refl; good = tt; reads = λ ls rest h. h }

pub text_word : (k : Kind) (text : List ℕ) → IsWritten k text → IsText (word text) (λ ls rest. IsNext k text ls rest)
text_word k text h = record { words = record { kind = k; text = text } ∷ []; text_is = refl; good = (h, tt); reads = λ ls rest s. subst (λ r. IsNext k text ls r) s.2 s.1 }

pub text_then : {a b : List ℕ} {P Q R : Ahead → Ahead → Type 0} → IsText a P → IsText b Q → ((ls mid rest : Ahead) → P ls mid → Q mid rest → R ls rest) → IsText (a ++ b) R
text_then h k next = record {
  words = h.words ++ k.words;
  text_is = rw (h.text_is, k.text_is) (sym (spaced_append h.words k.words));
  good = are_words_append h.words k.words h.good k.good;
  reads = λ ls rest s. let p = spells_split h.words k.words ls rest s in next ls p.0 rest (h.reads ls p.0 p.1) (k.reads p.0 rest p.2);
}

pub text_as : {a : List ℕ} {P Q : Ahead → Ahead → Type 0} → IsText a P → ((ls rest : Ahead) → P ls rest → Q ls rest) → IsText a Q
text_as h next = record { words = h.words; text_is = h.text_is; good = h.good; reads = λ ls rest s. next ls rest (h.reads ls rest s) }

pub record Joined (P Q : Ahead → Ahead → Type 0) (ls rest : Ahead) : Type 0 where
  pub mid : Ahead
  pub front : P ls mid
  pub back : Q mid rest

pub text_join : {a b : List ℕ} {P Q : Ahead → Ahead → Type 0} → IsText a P → IsText b Q → IsText (a ++ b) (Joined P Q)
text_join h k = text_then h k (λ ls mid rest p q. record { mid = mid; front = p; back = q })

-- ---- what such a token is

pub next_takes : {k : Kind} {text : List ℕ} {ls rest : Ahead} → IsNext k text ls rest → Takes (class_by k text) ls rest
next_takes h = record { token = h.token; ahead_is = h.ahead_is; class_is = rw (h.kind_is, h.text_is) refl }

pub mark_takes : {m : Mark} {text : List ℕ} {ls rest : Ahead} → IsNext (kind.Mark m) text ls rest → Takes (mark_class m) ls rest
unfolding class_by
mark_takes h = next_takes h

mark_passes : (m : Mark) → same_mark m m ≡ true → {text : List ℕ} {ls rest : Ahead} → IsNext (kind.Mark m) text ls rest → Passes m ls rest
unfolding is_mark_kind
mark_passes m e h = record { token = h.token; ahead_is = h.ahead_is; is_that = rw h.kind_is e }

pub text_mark : (m : Mark) → same_mark m m ≡ true → IsText (word (spelling m)) (λ ls rest. Passes m ls rest)
text_mark m e = text_as (text_word (kind.Mark m) (spelling m) refl) (λ ls rest h. mark_passes m e h)

pub text_class : (m : Mark) → IsText (word (spelling m)) (λ ls rest. Takes (mark_class m) ls rest)
text_class m = text_as (text_word (kind.Mark m) (spelling m) refl) (λ ls rest h. mark_takes h)

pub open_text : IsText (word (codes "(")) (λ ls rest. Passes mark.OpenRound ls rest)
unfolding same_mark
open_text = text_mark mark.OpenRound refl

pub close_text : IsText (word (codes ")")) (λ ls rest. Passes mark.CloseRound ls rest)
unfolding same_mark
close_text = text_mark mark.CloseRound refl

pub square_text : IsText (word (codes "[")) (λ ls rest. Passes mark.OpenSquare ls rest)
unfolding same_mark
square_text = text_mark mark.OpenSquare refl

pub close_square_text : IsText (word (codes "]")) (λ ls rest. Passes mark.CloseSquare ls rest)
unfolding same_mark
close_square_text = text_mark mark.CloseSquare refl

pub comma_text : IsText (word (codes ",")) (λ ls rest. Passes mark.Comma ls rest)
unfolding same_mark
comma_text = text_mark mark.Comma refl

pub dot_text : IsText (word (codes ".")) (λ ls rest. Passes mark.Dot ls rest)
unfolding same_mark
dot_text = text_mark mark.Dot refl

pub colon_text : IsText (word (codes ":")) (λ ls rest. Passes mark.Colon ls rest)
unfolding same_mark
colon_text = text_mark mark.Colon refl

next_says : (f : Kind → List ℕ → Option (List ℕ)) (a : List ℕ) {k : Kind} {text : List ℕ} {ls rest : Ahead} → f k text ≡ Some a → IsNext k text ls rest → Says (λ l. f l.kind l.text) ls a rest
next_says f a e h = record { token = h.token; ahead_is = h.ahead_is; said = rw (h.kind_is, h.text_is) e }

-- ---- quoted contents

-- a byte that stands between quotes for itself, or behind a `\`
abbrev pub IsCharacter : ℕ → Type 0
IsCharacter b = (is_plain single_quote b ≡ true) ⊎ (is_escaped single_quote b ≡ true)

abbrev pub AreCharacters : List ℕ → Type 0
AreCharacters [] = Unit {0}
AreCharacters (b ∷ bs) = IsCharacter b × AreCharacters bs

abbrev pub IsQuotable : List ℕ → Type 0
IsQuotable [] = ⊥
IsQuotable (b ∷ bs) = AreCharacters (b ∷ bs)

last_is_not : (a b c d : Bool) → ((a && b) && (c && not d)) ≡ true → d ≡ false
last_is_not true true true false e = refl
last_is_not true true true true e = absurd cc
last_is_not true true false d e = absurd cc
last_is_not true false c d e = absurd cc
last_is_not false b c d e = absurd cc

plain_stands : (b : ℕ) → is_plain single_quote b ≡ true → (b == backslash) ≡ false
unfolding is_plain
plain_stands b e = last_is_not (nat_le 32 b) (nat_le b 126) (not (b == single_quote)) (b == backslash) e

contents : (raw : List ℕ) → IsContent single_quote raw → AreCharacters (unescaped false raw)
contents [] empty = tt
contents (b ∷ bs) (plain e h) = rw (plain_stands b e) (inl e, contents bs h)
contents (_ ∷ b ∷ bs) (escape e h) = (inr e, contents bs h)

content_some : (raw : List ℕ) → IsContent single_quote raw → raw ≢ [] → IsQuotable (unescaped false raw)
content_some [] empty n = absurd (n refl)
content_some (b ∷ bs) (plain e h) n = rw (plain_stands b e) (inl e, contents bs h)
content_some (_ ∷ b ∷ bs) (escape e h) n = (inr e, contents bs h)

inner_is : (q : ℕ) (raw : List ℕ) → inner (q ∷ (raw ++ q ∷ [])) ≡ raw
inner_is q raw = by (length (raw ++ q ∷ [])) (length_end raw)
  where
    length_end : (xs : List ℕ) → length (xs ++ q ∷ []) ≡ length xs + 1
    length_end [] = refl
    length_end (x ∷ xs) = rw (length_end xs) (omega arith)

    take_end : (xs : List ℕ) → take (length xs) (xs ++ q ∷ []) ≡ xs
    take_end [] = refl
    take_end (x ∷ xs) = rw (take_end xs) refl

    by : (n : ℕ) → n ≡ length raw + 1 → take (suc n - 2) (raw ++ q ∷ []) ≡ raw
    by n e = let f : suc n - 2 ≡ length raw = omega (arith, e) in rw f (take_end raw)

pub quotable : (text : List ℕ) → IsToken kind.Quoted text → IsQuotable (content text)
unfolding content
quotable text h = rw (h.3, inner_is single_quote h.0) (content_some h.0 h.1 h.2)

hidden_escaped : (b : ℕ) → is_hidden b ≡ is_escaped single_quote b
unfolding is_hidden is_escaped
hidden_escaped b = refl

hidden_not : (b : ℕ) → is_hidden b ≡ false → (b == backslash) ≡ false
unfolding is_hidden
hidden_not b e = by (b == single_quote) (b == backslash) e
  where
    by : (x y : Bool) → (x || y) ≡ false → y ≡ false
    by false y e = e
    by true y e = absurd cc

or_not : (b : Bool) → (b ≡ true) ⊎ (b ≡ false)
or_not true = inl refl
or_not false = inr refl

-- a quoted content, taken out of its quotes again
unescaped_is : (bs : List ℕ) → unescaped false (escaped bs) ≡ bs
unfolding escaped
unescaped_is [] = refl
unescaped_is (b ∷ bs) = elim (or_not (is_hidden b)) [
  | inl t ↦ rw (t, unescaped_is bs) refl
  | inr f ↦ rw (f, hidden_not b f, unescaped_is bs) refl
]

escaped_content : (bs : List ℕ) → AreCharacters bs → IsContent single_quote (escaped bs)
unfolding escaped
escaped_content [] h = empty
escaped_content (b ∷ bs) h = elim (or_not (is_hidden b)) [
  | inl t ↦ rw t (escape {b = b} (rw (← hidden_escaped b) t) (escaped_content bs h.1))
  | inr f ↦ rw f (plain {b = b} (by f h.0) (escaped_content bs h.1))
]
  where
    by : is_hidden b ≡ false → IsCharacter b → is_plain single_quote b ≡ true
    by f (inl e) = e
    by f (inr e) = let g = hidden_escaped b in absurd cc

escaped_some : (b : ℕ) (bs : List ℕ) → escaped (b ∷ bs) ≢ []
unfolding escaped
escaped_some b bs = elim (or_not (is_hidden b)) [ inl t ↦ rw t (λ e. absurd cc) | inr f ↦ rw f (λ e. absurd cc) ]

quoted_token : (bs : List ℕ) → IsQuotable bs → IsToken kind.Quoted (quoted bs)
unfolding quoted
quoted_token [] h = absurd h
quoted_token (b ∷ bs) h = (escaped (b ∷ bs), escaped_content (b ∷ bs) h, escaped_some b bs, refl)

quoted_says : (bs : List ℕ) → content (quoted bs) ≡ bs
unfolding content quoted
quoted_says bs = rw (inner_is single_quote (escaped bs)) (unescaped_is bs)

pub quoted_text_is : (bs : List ℕ) → IsQuotable bs → IsText (word (quoted bs)) (λ ls rest. Says quoted_of ls bs rest)
unfolding said_by
quoted_text_is bs h = text_as (text_word kind.Quoted (quoted bs) (quoted_token bs h)) (λ ls rest n. record { token = n.token; ahead_is = n.ahead_is; said = rw (n.kind_is, n.text_is) (ap Some (quoted_says bs)) })

-- ---- atoms and names

abbrev pub IsAtom : List ℕ → Type 0
IsAtom name = IsToken kind.Lower name ⊎ IsQuotable name

abbrev pub IsName : List ℕ → Type 0
IsName name = IsDigits name ⊎ IsAtom name

all_each : (test : ℕ → Bool) (bs : List ℕ) → list_all test bs ≡ true → Each test bs
all_each test [] e = tt
all_each test (b ∷ bs) e = elim (or_not (test b)) [ inl t ↦ (t, all_each test bs (rw t at e)) | inr f ↦ absurd (let g : false ≡ true = rw f at e in cc) ]

each_all : (test : ℕ → Bool) (bs : List ℕ) → Each test bs → list_all test bs ≡ true
each_all test [] h = refl
each_all test (b ∷ bs) h = rw (h.0, each_all test bs h.1) refl

and_true : (x y : Bool) → (x && y) ≡ true → (x ≡ true) × (y ≡ true)
and_true true true e = (refl, refl)
and_true true false e = absurd cc
and_true false y e = absurd cc

bare_lower : (name : List ℕ) → is_bare name ≡ true → IsToken kind.Lower name
unfolding is_bare
bare_lower [] e = absurd cc
bare_lower (b ∷ bs) e = let p = and_true (is_lower b) (list_all is_word bs) e in (p.0, all_each is_word bs p.1)

lower_bare : (name : List ℕ) → IsToken kind.Lower name → is_bare name ≡ true
unfolding is_bare
lower_bare [] h = absurd h
lower_bare (b ∷ bs) h = rw (h.0, each_all is_word bs h.1) refl

number_digits : (name : List ℕ) → is_number name ≡ true → IsDigits name
unfolding is_number
number_digits [] e = absurd cc
number_digits (b ∷ bs) e = let p = and_true (is_digit b) (list_all is_digit bs) e in (p.0, all_each is_digit bs p.1)

digits_number : (name : List ℕ) → IsDigits name → is_number name ≡ true
unfolding is_number
digits_number [] h = absurd h
digits_number (b ∷ bs) h = rw (h.0, each_all is_digit bs h.1) refl

digits_are : (name : List ℕ) → IsDigits name → are_digits name ≡ true
unfolding are_digits
digits_are [] h = absurd h
digits_are (b ∷ bs) h = rw (h.0, each_all is_digit bs h.1) refl

not_bare_quotable : (name : List ℕ) → IsAtom name → is_bare name ≡ false → IsQuotable name
not_bare_quotable name (inl h) f = let t = lower_bare name h in absurd cc
not_bare_quotable name (inr h) f = h

pub atom_text_is : (name : List ℕ) → IsAtom name → IsText (word (atom_text name)) (λ ls rest. Says atom_of ls name rest)
unfolding atom_text said_by
atom_text_is name h = elim (or_not (is_bare name)) [
  | inl t ↦ rw t (text_as (text_word kind.Lower name (bare_lower name t)) (λ ls rest n. record { token = n.token; ahead_is = n.ahead_is; said = rw (n.kind_is, n.text_is) refl }))
  | inr f ↦ rw f (text_as (text_word kind.Quoted (quoted name) (quoted_token name (not_bare_quotable name h f))) (λ ls rest n. record { token = n.token; ahead_is = n.ahead_is; said = rw (n.kind_is, n.text_is) (ap Some (quoted_says name)) }))
]

not_number_atom : (name : List ℕ) → IsName name → is_number name ≡ false → IsAtom name
not_number_atom name (inl h) f = let t = digits_number name h in absurd cc
not_number_atom name (inr h) f = h

atom_name : {ls rest : Ahead} {name : List ℕ} → Says atom_of ls name rest → Says name_of ls name rest
unfolding said_by
atom_name {name = name} h = record { token = h.token; ahead_is = h.ahead_is; said = by h.token.kind h.token.text h.said }
  where
    by : (k : Kind) (text : List ℕ) → said_by says.Atom k text ≡ Some name → said_by says.Name k text ≡ Some name
    by kind.Lower text e = e
    by kind.Quoted text e = e
    by _ text e = absurd cc

pub name_text_is : (name : List ℕ) → IsName name → IsText (word (name_text name)) (λ ls rest. Says name_of ls name rest)
unfolding name_text said_by
name_text_is name h = elim (or_not (is_number name)) [
  | inl t ↦ rw t (text_as (text_word kind.Number name (number_digits name t)) (λ ls rest n. record { token = n.token; ahead_is = n.ahead_is; said = rw (n.kind_is, n.text_is, digits_are name (number_digits name t)) refl }))
  | inr f ↦ rw f (text_as (atom_text_is name (not_number_atom name h f)) (λ ls rest s. atom_name s))
]

pub upper_text_is : (name : List ℕ) → IsToken kind.Upper name → IsText (word name) (λ ls rest. Says upper_of ls name rest)
unfolding said_by
upper_text_is name h = text_as (text_word kind.Upper name h) (λ ls rest n. record { token = n.token; ahead_is = n.ahead_is; said = rw (n.kind_is, n.text_is) refl })

pub lower_text_is : (name : List ℕ) → IsToken kind.Lower name → IsText (word name) (λ ls rest. Says lower_of ls name rest)
unfolding said_by
lower_text_is name h = text_as (text_word kind.Lower name h) (λ ls rest n. record { token = n.token; ahead_is = n.ahead_is; said = rw (n.kind_is, n.text_is) refl })
