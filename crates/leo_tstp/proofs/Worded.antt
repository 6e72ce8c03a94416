-- The words of two texts, token by token.
use Rattle.std.proofs.Common.{ℕ, zero, suc, ◌≡◌, ◌∙◌, ◌+◌, ◌<◌, ◌≤◌, List, [], ◌∷◌, ◌++◌, length, map, take, slice_index_or, refl, sym, ap, ap₂, subst, arith}
use Rattle.std.proofs.lemmas.List.{take_more, map-append, length-drop}
use Rattle.leo_lex.specs.declared.token.Token.{Token}
use Rattle.leo_lex.specs.Cut.{Cut, done, pass, keep, AreTokens}
use Rattle.leo_tstp.specs.TextWords.{word_of, words, TokensFit}

-- the tokens of a text lie in it
cut_fits : {bytes : List ℕ} {at stop : ℕ} {ts : List Token} → Cut bytes at ts stop → at ≤ length bytes → TokensFit bytes ts
cut_fits done h k d less = absurd (omega (arith, less))
cut_fits {bytes} {at} (pass b more) h k d less = cut_fits more (omega (arith, b.within, length-drop at bytes)) k d less
cut_fits {bytes} {at} (keep b more) h zero d less = (omega arith, omega (arith, b.within, length-drop at bytes))
cut_fits {bytes} {at} (keep b more) h (suc k) d less = cut_fits more (omega (arith, b.within, length-drop at bytes)) k d (omega (arith, less))

pub tokens_fit : (bytes : List ℕ) (ts : List Token) → AreTokens bytes ts → TokensFit bytes ts
tokens_fit bytes ts h = cut_fits h (omega arith)

pub tokens_fit-same : (bytes other : List ℕ) (ts us : List Token) → bytes ≡ other → ts ≡ us → AreTokens bytes ts → TokensFit other us
tokens_fit-same bytes other ts us e f h = tokens_fit other us (subst (λ (vs : List Token). AreTokens other vs) f (subst (λ (cs : List ℕ). AreTokens cs ts) e h))

-- one token more
words-more : (bytes : List ℕ) (ts : List Token) (i : ℕ) (d t : Token) → i < length ts → t ≡ slice_index_or ts i d → words bytes (take (i + 1) ts) ≡ words bytes (take i ts) ++ word_of bytes t ∷ []
words-more bytes ts i d t l e =
    let m : take (i + 1) ts ≡ take i ts ++ t ∷ [] = take_more ts i d l ∙ ap (λ y. take i ts ++ y ∷ []) (sym e) in
    ap (map (word_of bytes)) m ∙ map-append (word_of bytes) (take i ts) (t ∷ [])

pub both-more : (bytes other : List ℕ) (ts us : List Token) (i : ℕ) (d o t u : Token) → i < length ts → i < length us → t ≡ slice_index_or ts i d → u ≡ slice_index_or us i o
    → word_of bytes t ≡ word_of other u → words bytes (take i ts) ≡ words other (take i us) → words bytes (take (i + 1) ts) ≡ words other (take (i + 1) us)
both-more bytes other ts us i d o t u l m e f w h =
    words-more bytes ts i d t l e ∙ ap₂ (λ xs x. xs ++ x ∷ []) h w ∙ sym (words-more other us i o u m f)

take-all : {A : Type 0} (xs : List A) (n : ℕ) → length xs ≤ n → take n xs ≡ xs
take-all [] zero l = refl
take-all [] (suc n) l = refl
take-all (x ∷ xs) zero l = absurd (omega arith)
take-all (x ∷ xs) (suc n) l = ap (λ ys. x ∷ ys) (take-all xs n (omega arith))

pub all-same : (bytes other : List ℕ) (ts us : List Token) (i : ℕ) → length ts ≤ i → length us ≤ i → words bytes (take i ts) ≡ words other (take i us) → words bytes ts ≡ words other us
all-same bytes other ts us i l m h = ap (words bytes) (sym (take-all ts i l)) ∙ h ∙ ap (words other) (take-all us i m)
