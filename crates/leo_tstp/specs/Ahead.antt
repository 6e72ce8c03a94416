-- The words of a text from a token on. For private contracts.
use Rattle.std.specs.Prelude.{ℕ, ◌≡◌, ◌-◌, ◌&&◌, nat_le, List, [], ◌∷◌, ◌++◌, length, map, take, drop, Result, Ok, Err, if◌then◌else◌}
use Rattle.leo_lex.specs.declared.token.Token.{Token}
use Rattle.leo_tstp.specs.declared.refusal.Stop.{Stop}
use Rattle.leo_tstp.specs.declared.refusal.Stop.TheVariants.{Refused, Memory}
use Rattle.leo_tstp.specs.declared.reading.source.Reader.{Reader}

-- the bytes of a token, and none where it lies outside
abbrev pub token_word : List ℕ → Token → List ℕ
token_word bytes t = if nat_le t.start t.end && nat_le t.end (length bytes) then take (t.end - t.start) (drop t.start bytes) else []

-- the words from a token on
unfoldable pub ahead : List ℕ → List Token → ℕ → List (List ℕ)
ahead bytes tokens at = map (token_word bytes) (drop at tokens)

-- the first word, and none behind the last
abbrev pub first_word : List (List ℕ) → List ℕ
first_word [] = []
first_word (w ∷ ws) = w

-- the word behind the first
abbrev pub second_word : List (List ℕ) → List ℕ
second_word [] = []
second_word (w ∷ ws) = first_word ws

-- the words that a reader has not passed
abbrev pub ahead_of : Reader → List (List ℕ)
ahead_of r = ahead r.bytes.now r.tokens.now r.at

abbrev pub IsWant : Stop → Type 0
IsWant Refused = ⊥
IsWant Memory = Unit {0}

-- it was read, and nothing but want of memory stopped it
abbrev pub IsTaken : {A : Type 0} → Result A Stop → (A → Type 0) → Type 0
IsTaken (Ok x) P = P x
IsTaken (Err e) P = IsWant e

-- where there is a word, it was passed
abbrev pub Passes : Reader → Reader → Type 0
Passes old new = (word : List ℕ) (rest : List (List ℕ)) → ahead_of old ≡ word ∷ rest → ahead_of new ≡ rest

-- where that word comes next, it was passed
abbrev pub TakesWord : Reader → List ℕ → Result (Unit {0}) Stop → Reader → Type 0
TakesWord old word result new = (rest : List (List ℕ)) → ahead_of old ≡ word ∷ rest → IsTaken result (λ _. ahead_of new ≡ rest)

-- the same for several words
abbrev pub TakesWords : Reader → List (List ℕ) → Result (Unit {0}) Stop → Reader → Type 0
TakesWords old words result new = (rest : List (List ℕ)) → ahead_of old ≡ words ++ rest → IsTaken result (λ _. ahead_of new ≡ rest)
