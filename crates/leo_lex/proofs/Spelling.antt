-- The tokens of a text that is given by its words.
use Rattle.std.proofs.Common.{◌≡◌, ℕ, ◌+◌, ◌-◌, true, List, [], ◌∷◌, ◌++◌, length, take, drop, map, refl, ap, sym, ◌∙◌, subst, append_assoc, length-append, arith}
use Rattle.std.proofs.lemmas.List.{drop_at}
use Rattle.std.proofs.Math.Seq.{take-append_seam}
use Rattle.leo_lex.specs.declared.token.Token.{Token}
use Rattle.leo_lex.specs.Bytes.{is_blank}
use Rattle.leo_lex.specs.Cut.{gap, token, Begins, Cut, done, pass, keep, AreTokens}
use Rattle.leo_lex.specs.Spells.{Spells, nothing, blank, word, text_of, HasTokens}
use Rattle.leo_lex.proofs.Pieces.{begins_gap, blank_ink}
use Rattle.leo_lex.proofs.Cuts.{tokens_once}
use Rattle.leo_lex.proofs.Ends.{token_begins}

pub blank_begins : (b : ℕ) (rest : List ℕ) → is_blank b ≡ true → Begins (b ∷ rest) gap 1
blank_begins b rest h =
    let i = blank_ink b h in
    begins_gap (b ∷ rest) 1 (rw (i.0, i.1, h) refl) (omega arith)

-- the tokens from a place on
record TokensFrom (bytes : List ℕ) (at : ℕ) (words : List (List ℕ)) : Type 0 where
  pub tokens : List Token
  pub cut : Cut bytes at tokens (length bytes)
  pub words_of : map (text_of bytes) tokens ≡ words

from : (front rest : List ℕ) (words : List (List ℕ)) (bytes : List ℕ) (at : ℕ) → Spells rest words → bytes ≡ front ++ rest → at ≡ length front → TokensFrom bytes at words
from front [] _ bytes at nothing eb ea =
    let stop : at ≡ length bytes = omega (arith, ea, ap length eb, length-append front []) in
    record { tokens = []; cut = subst (λ n. Cut bytes at [] n) stop done; words_of = refl }
from front (b ∷ rest) words bytes at (blank h more) eb ea =
    let here : drop at bytes ≡ b ∷ rest = rw eb (drop_at front (b ∷ rest) at (sym ea)) in
    let regroup : bytes ≡ (front ++ b ∷ []) ++ rest = eb ∙ sym (append_assoc front (b ∷ []) rest) in
    let place : at + 1 ≡ length (front ++ b ∷ []) = omega (arith, ea, length-append front (b ∷ [])) in
    let others = from (front ++ b ∷ []) rest words bytes (at + 1) more regroup place in
    record { tokens = others.tokens; cut = pass (subst (λ x. Begins x gap 1) (sym here) (blank_begins b rest h)) others.cut; words_of = others.words_of }
from front behind (_ ∷ words) bytes at (word {text = text} {rest = rest} kind h e ended more) eb ea =
    let n = length text in
    let here : drop at bytes ≡ text ++ rest = rw eb (drop_at front behind at (sym ea)) ∙ e in
    let regroup : bytes ≡ (front ++ text) ++ rest = eb ∙ ap (λ x. front ++ x) e ∙ sym (append_assoc front text rest) in
    let place : at + n ≡ length (front ++ text) = omega (arith, ea, length-append front text) in
    let others = from (front ++ text) rest words bytes (at + n) more regroup place in
    let size : at + n - at ≡ n = omega arith in
    let this : take (at + n - at) (drop at bytes) ≡ text = rw (size, here) (take-append_seam text rest) in
    record {
      tokens = record { kind = kind; start = at; end = at + n } ∷ others.tokens;
      cut = keep (subst (λ x. Begins x (token kind) n) (sym here) (token_begins kind text rest h ended)) others.cut;
      words_of = rw (this, others.words_of) refl;
    }

pub has_tokens : (bytes : List ℕ) (words : List (List ℕ)) → Spells bytes words → HasTokens bytes words
has_tokens bytes words h =
    let all = from [] bytes words bytes 0 h refl refl in
    record { tokens = all.tokens; are_tokens = all.cut; words_of = all.words_of }

-- a text has one list of tokens alone
pub same_tokens : (bytes : List ℕ) (tokens others : List Token) → AreTokens bytes tokens → AreTokens bytes others → tokens ≡ others
same_tokens bytes tokens others h k = tokens_once bytes tokens others h k
