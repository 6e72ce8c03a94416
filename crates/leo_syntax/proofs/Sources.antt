-- The tokens of a source, one after the other.
use Rattle.std.proofs.Common.{◌≡◌, ℕ, ◌+◌, ◌<◌, ◌≤◌, List, [], ◌∷◌, length, drop, get_or, refl, ap, ◌∙◌, add-one}
use Rattle.std.proofs.Math.Seq.{drop-cons}
use Rattle.std.proofs.lemmas.List.{drop-drop}
use Rattle.std.proofs.Math.ListN.{drop_of_length-le}
use Rattle.leo_lex.specs.declared.token.Token.{Token}
use Rattle.leo_syntax.specs.declared.source.Source.{Source}
use Rattle.leo_syntax.specs.Lexemes.{lexemes}
use Rattle.leo_syntax.specs.Reading.{rest}
use Rattle.leo_syntax.specs.Source.{ahead, IsNext}

rest_map : (bytes : List ℕ) (ts : List Token) → rest (lexemes bytes ts) ≡ lexemes bytes (drop 1 ts)
unfolding rest
rest_map bytes [] = refl
rest_map bytes (t ∷ ts) = refl

pub rest_ahead : (s : Source) (at : ℕ) → rest (ahead s at) ≡ ahead s (at + 1)
unfolding ahead
rest_ahead s at = rest_map s.bytes.now (drop at s.tokens.now) ∙ ap (lexemes s.bytes.now) (drop-drop 1 at s.tokens.now)

pub next_is : (s : Source) (at : ℕ) (t d : Token) → at < length s.tokens.now → t ≡ get_or s.tokens.now at d → t.start ≤ t.end → t.end ≤ length s.bytes.now → IsNext s at t
unfolding ahead
next_is s at t d h e ordered fits = record {
  within = h;
  ahead_is = ap (lexemes s.bytes.now) (drop-cons s.tokens.now at d h) ∙ rw (add-one, ← e) refl;
  ordered = ordered;
  fits = fits;
}

pub ahead_none : (s : Source) (at : ℕ) → length s.tokens.now ≤ at → ahead s at ≡ []
unfolding ahead
ahead_none s at h = ap (lexemes s.bytes.now) (drop_of_length-le s.tokens.now h)

pub rest_none : (s : Source) (at : ℕ) → length s.tokens.now ≤ at → rest (ahead s at) ≡ ahead s at
unfolding rest
rest_none s at h = rw (ahead_none s at h) refl
