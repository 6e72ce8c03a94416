-- The words of clauses, with those that stand behind them.
use Rattle.std.specs.Prelude.{ℕ, ◌+◌, Bool, List, [], ◌∷◌, ◌++◌, codes, decimal, if◌then◌else◌}
use Rattle.leo_q0.specs.Terms.{SimpleType}
use Rattle.leo_clause.specs.Trees.{Literal, ClauseTree}
use Rattle.leo_tstp.specs.Vocabulary.{Vocabulary}
use Rattle.leo_tstp.specs.Spelled.{type_then}
use Rattle.leo_tstp.specs.TermWords.{between_then, term_then}

-- a variable with its type
abbrev pub declared_then : Vocabulary → ℕ → SimpleType → List (List ℕ) → List (List ℕ)
declared_then v n a rest = (codes "X" ++ decimal n) ∷ codes ":" ∷ type_then v a rest

-- variables from a number on, each behind a comma
abbrev pub further_variables_then : Vocabulary → ℕ → List SimpleType → List (List ℕ) → List (List ℕ)
further_variables_then v n [] rest = rest
further_variables_then v n (a ∷ others) rest = codes "," ∷ declared_then v n a (further_variables_then v (n + 1) others rest)

-- the variables of a clause, if it has some
abbrev pub variables_then : Vocabulary → List SimpleType → List (List ℕ) → List (List ℕ)
variables_then v [] rest = rest
variables_then v (a ∷ others) rest =
    codes "!" ∷ codes "[" ∷ declared_then v 0 a (further_variables_then v 1 others (codes "]" ∷ codes ":" ∷ rest))

abbrev pub equation_word : Bool → List ℕ
equation_word positive = if positive then codes "=" else codes "!="

abbrev pub literal_then : Vocabulary → Literal → List (List ℕ) → List (List ℕ)
literal_then v l rest = between_then (λ r. term_then v l.left r) (equation_word l.positive) (λ r. term_then v l.right r) rest

-- literals, each behind a sign
abbrev pub further_literals_then : Vocabulary → List Literal → List (List ℕ) → List (List ℕ)
further_literals_then v [] rest = rest
further_literals_then v (l ∷ ls) rest = codes "|" ∷ literal_then v l (further_literals_then v ls rest)

-- a literal, or several in brackets
abbrev pub disjunction_then : Vocabulary → Literal → List Literal → List (List ℕ) → List (List ℕ)
disjunction_then v l [] rest = literal_then v l rest
disjunction_then v l (k ∷ ks) rest = codes "(" ∷ literal_then v l (further_literals_then v (k ∷ ks) (codes ")" ∷ rest))

-- falsity, where there is none
abbrev pub literals_then : Vocabulary → List Literal → List (List ℕ) → List (List ℕ)
literals_then v [] rest = codes "$false" ∷ rest
literals_then v (l ∷ ls) rest = disjunction_then v l ls rest

abbrev pub clause_then : Vocabulary → ClauseTree → List (List ℕ) → List (List ℕ)
clause_then v c rest = variables_then v c.variables (literals_then v c.literals rest)
