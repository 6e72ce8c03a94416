-- Texts by the words of their tokens, each ended by what stands behind it.
use Rattle.std.specs.Prelude.{◌≡◌, ℕ, ◌-◌, Bool, true, false, not, ◌||◌, ◌==◌, List, [], ◌∷◌, ◌++◌, take, drop, map}
use Rattle.leo_lex.specs.declared.mark.Mark.{Mark}
use Rattle.leo_lex.specs.declared.mark.Mark.TheVariants.{ImpliedBy, Colon, At, ForAll, Exists, Not, Equal, Plus, Minus, Less}
use Rattle.leo_lex.specs.declared.token.Kind.{Kind}
use Rattle.leo_lex.specs.declared.token.Kind.TheVariants.{Lower, Upper, Dollar, System, Quoted, Distinct, Number, Mark as MarkToken}
use Rattle.leo_lex.specs.declared.token.Token.{Token}
use Rattle.leo_lex.specs.Bytes.{is_digit, is_point, is_exponent, is_word, is_blank}
use Rattle.leo_lex.specs.Spaced.{IsWritten}
use Rattle.leo_lex.specs.Cut.{AreTokens}

-- no word goes on there
unfoldable pub ends_word : List ℕ → Bool
ends_word [] = true
ends_word (b ∷ bs) = not (is_word b)

-- no number that is digits so far goes on there
unfoldable pub ends_digits : List ℕ → Bool
ends_digits [] = true
ends_digits (b ∷ bs) = not (is_digit b || (is_point b || is_exponent b))

-- a space stands there, or nothing
abbrev pub ends_mark : List ℕ → Bool
ends_mark [] = true
ends_mark (b ∷ bs) = b == 32

-- neither a longer mark nor a number begins as the mark does
abbrev pub is_longest : Mark → Bool
is_longest ImpliedBy = false
is_longest Colon = false
is_longest At = false
is_longest ForAll = false
is_longest Exists = false
is_longest Not = false
is_longest Equal = false
is_longest Plus = false
is_longest Minus = false
is_longest Less = false
is_longest _ = true

-- a token of that kind ends before those bytes
abbrev pub ends : Kind → List ℕ → Bool
ends Lower rest = ends_word rest
ends Upper rest = ends_word rest
ends Dollar rest = ends_word rest
ends System rest = ends_word rest
ends Quoted rest = true
ends Distinct rest = true
ends Number rest = ends_digits rest
ends (MarkToken m) rest = is_longest m || ends_mark rest

-- the bytes are those words, with white space between
pub data Spells : List ℕ → List (List ℕ) → Type 0 where
  nothing : Spells [] []
  blank : {b : ℕ} {bytes : List ℕ} {words : List (List ℕ)} → is_blank b ≡ true → Spells bytes words → Spells (b ∷ bytes) words
  word : {bytes text rest : List ℕ} {words : List (List ℕ)} (kind : Kind) → IsWritten kind text → bytes ≡ text ++ rest → ends kind rest ≡ true
      → Spells rest words → Spells bytes (text ∷ words)

-- the bytes of a token
abbrev pub text_of : List ℕ → Token → List ℕ
text_of bytes t = take (t.end - t.start) (drop t.start bytes)

-- the tokens of the bytes, which have those words
pub record HasTokens (bytes : List ℕ) (words : List (List ℕ)) : Type 0 where
  pub tokens : List Token
  pub are_tokens : AreTokens bytes tokens
  pub words_of : map (text_of bytes) tokens ≡ words
