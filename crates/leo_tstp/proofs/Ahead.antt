-- The words ahead of a reader.
use Rattle.std.proofs.Common.{ℕ, zero, suc, ◌≡◌, ◌+◌, ◌≤◌, List, [], ◌∷◌, length, slice_get, Some, None, refl, ap, sym, arith, add-one}
use Rattle.leo_lex.specs.declared.token.Token.{Token}
use Rattle.leo_tstp.specs.Ahead.{token_word, ahead, first_word, second_word}

pub first-some : (bytes : List ℕ) (ts : List Token) (at : ℕ) (t : Token) → slice_get ts at ≡ Some t → token_word bytes t ≡ first_word (ahead bytes ts at)
unfolding ahead
first-some bytes [] at t h = absurd (cc)
first-some bytes (u ∷ ts) zero t h = let e : t ≡ u = cc in ap (token_word bytes) e
first-some bytes (u ∷ ts) (suc at) t h = first-some bytes ts at t h

pub first-none : (bytes : List ℕ) (ts : List Token) (at : ℕ) → slice_get ts at ≡ None → [] ≡ first_word (ahead bytes ts at)
unfolding ahead
first-none bytes [] zero h = refl
first-none bytes [] (suc at) h = refl
first-none bytes (u ∷ ts) zero h = absurd (cc)
first-none bytes (u ∷ ts) (suc at) h = first-none bytes ts at h

next : (bytes : List ℕ) (ts : List Token) (at : ℕ) (word : List ℕ) (rest : List (List ℕ)) → ahead bytes ts at ≡ word ∷ rest → ahead bytes ts (suc at) ≡ rest
unfolding ahead
next bytes [] zero word rest h = absurd (cc)
next bytes [] (suc at) word rest h = absurd (cc)
next bytes (u ∷ ts) zero word rest h = cc
next bytes (u ∷ ts) (suc at) word rest h = next bytes ts at word rest h

pub passed : (bytes : List ℕ) (ts : List Token) (at : ℕ) (word : List ℕ) (rest : List (List ℕ)) → ahead bytes ts at ≡ word ∷ rest → ahead bytes ts (at + 1) ≡ rest
passed bytes ts at word rest h = rw add-one (next bytes ts at word rest h)

-- behind the last there is no word
pub no-word : (bytes : List ℕ) (ts : List Token) (at : ℕ) (word : List ℕ) (rest : List (List ℕ)) → length ts ≤ at → ahead bytes ts at ≡ word ∷ rest → ⊥
unfolding ahead
no-word bytes [] zero word rest l h = cc
no-word bytes [] (suc at) word rest l h = cc
no-word bytes (u ∷ ts) zero word rest l h = absurd (omega arith)
no-word bytes (u ∷ ts) (suc at) word rest l h = no-word bytes ts at word rest (omega arith) h

-- no word is left where no token is
pub none-left : (bytes : List ℕ) (ts : List Token) (at : ℕ) → length ts ≤ at → ahead bytes ts at ≡ []
unfolding ahead
none-left bytes [] zero l = refl
none-left bytes [] (suc at) l = refl
none-left bytes (u ∷ ts) zero l = absurd (omega arith)
none-left bytes (u ∷ ts) (suc at) l = none-left bytes ts at (omega arith)

pub no-token-left : (bytes : List ℕ) (ts : List Token) (at : ℕ) → ahead bytes ts at ≡ [] → length ts ≤ at
unfolding ahead
no-token-left bytes [] at h = omega arith
no-token-left bytes (u ∷ ts) zero h = absurd (cc)
no-token-left bytes (u ∷ ts) (suc at) h = let k = no-token-left bytes ts at h in omega arith

second-next : (bytes : List ℕ) (ts : List Token) (at : ℕ) → first_word (ahead bytes ts (suc at)) ≡ second_word (ahead bytes ts at)
unfolding ahead
second-next bytes [] zero = refl
second-next bytes [] (suc at) = refl
second-next bytes (u ∷ ts) zero = refl
second-next bytes (u ∷ ts) (suc at) = second-next bytes ts at

pub second-first : (bytes : List ℕ) (ts : List Token) (at : ℕ) → first_word (ahead bytes ts (at + 1)) ≡ second_word (ahead bytes ts at)
second-first bytes ts at = rw add-one (second-next bytes ts at)

pub second-none : (bytes : List ℕ) (ts : List Token) (at : ℕ) → length ts ≤ at → [] ≡ second_word (ahead bytes ts at)
second-none bytes ts at l = ap second_word (sym (none-left bytes ts at l))
