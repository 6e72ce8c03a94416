-- The words of what a rule was applied to and of its parents, with those that stand behind them.
use Rattle.std.specs.Prelude.{ℕ, ◌≡◌, List, ◌∷◌, ◌++◌, codes, decimal, Option, Some, None, Result}
use Rattle.leo_tstp.specs.declared.refusal.Stop.{Stop}
use Rattle.leo_tstp.specs.declared.reading.source.Reader.{Reader}
use Rattle.leo_tstp.specs.Ahead.{IsTaken, ahead_of}

-- the name of a line
abbrev pub line_word : ℕ → List ℕ
line_word p = codes "l" ++ decimal p

-- what stands before the parents, and what ends a line
abbrev pub middle_then : List (List ℕ) → List (List ℕ)
middle_then rest = codes "]" ∷ codes "," ∷ codes "[" ∷ rest

abbrev pub end_then : List (List ℕ) → List (List ℕ)
end_then rest = codes "]" ∷ codes ")" ∷ codes ")" ∷ codes "." ∷ rest

abbrev pub no_parent_then : List (List ℕ) → List (List ℕ)
no_parent_then rest = middle_then (end_then rest)

abbrev pub one_parent_then : ℕ → List (List ℕ) → List (List ℕ)
one_parent_then p rest = middle_then (line_word p ∷ end_then rest)

abbrev pub two_parents_then : ℕ → ℕ → List (List ℕ) → List (List ℕ)
two_parents_then p q rest = middle_then (line_word p ∷ codes "," ∷ line_word q ∷ end_then rest)

-- a parent, and the line of an abbreviation where one is used
abbrev pub parent_and_then : ℕ → Option ℕ → List (List ℕ) → List (List ℕ)
parent_and_then p None rest = one_parent_then p rest
parent_and_then p (Some q) rest = two_parents_then p q rest

-- a literal's number in brackets, and one with a comma behind it
abbrev pub one_literal_then : ℕ → List (List ℕ) → List (List ℕ)
one_literal_then i rest = codes "(" ∷ decimal i ∷ codes ")" ∷ rest

abbrev pub literal_and_then : ℕ → List (List ℕ) → List (List ℕ)
literal_and_then i rest = codes "(" ∷ decimal i ∷ codes "," ∷ rest

-- where those words come next, that is read of them, and the others come next
abbrev pub Reads : {A : Type 0} → Reader → List (List ℕ) → Result A Stop → A → Reader → List (List ℕ) → Type 0
Reads old words result x new rest = ahead_of old ≡ words → IsTaken result (λ y. (y ≡ x) × (ahead_of new ≡ rest))

-- where those words come next, they were passed
abbrev pub PassesWords : Reader → List (List ℕ) → Result (Unit {0}) Stop → Reader → List (List ℕ) → Type 0
PassesWords old words result new rest = ahead_of old ≡ words → IsTaken result (λ _. ahead_of new ≡ rest)
