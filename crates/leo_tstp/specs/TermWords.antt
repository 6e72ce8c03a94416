-- The words of terms, with those that stand behind them.
use Rattle.std.specs.Prelude.{ℕ, ◌+◌, ◌-◌, Bool, List, ◌∷◌, ◌++◌, codes, decimal, if◌then◌else◌}
use Rattle.leo_terms.specs.Tree.{Tree, variable, bound, symbol, app, lam, logic, absent, Connective, truth, falsity, negation, disjunction, conjunction, implication, equality, universal, existential, choice}
use Rattle.leo_tstp.specs.Vocabulary.{Vocabulary}
use Rattle.leo_tstp.specs.TermTexts.{is_lambda, lambda_sign}
use Rattle.leo_tstp.specs.Spelled.{binder_then}

-- words, by those that stand behind them
abbrev pub Then : Type 0
Then = List (List ℕ) → List (List ℕ)

-- two terms in brackets with a sign between
abbrev pub between_then : Then → List ℕ → Then → Then
between_then first sign second rest = codes "(" ∷ first (sign ∷ second (codes ")" ∷ rest))

-- a term in brackets behind a sign
abbrev pub behind_then : List ℕ → Then → Then
behind_then sign argument rest = codes "(" ∷ sign ∷ argument (codes ")" ∷ rest)

-- a constant that is applied to a term
abbrev pub applied_then : List ℕ → Then → Then
applied_then constant argument rest = codes "(" ∷ constant ∷ codes "@" ∷ argument (codes ")" ∷ rest)

-- a quantifier or choice; `argument` has the words of the argument, by the sign for a lambda
abbrev pub quantified_then : List ℕ → List ℕ → Bool → (List ℕ → Then) → Then
quantified_then sign constant binds argument rest = if binds then argument sign rest else applied_then constant (argument lambda_sign) rest

-- a logical constant with its arguments
abbrev pub logic_then : Connective → Bool → (List ℕ → Then) → Then → Then
logic_then truth binds first second rest = codes "$true" ∷ rest
logic_then falsity binds first second rest = codes "$false" ∷ rest
logic_then negation binds first second rest = behind_then (codes "~") (first lambda_sign) rest
logic_then disjunction binds first second rest = between_then (first lambda_sign) (codes "|") second rest
logic_then conjunction binds first second rest = between_then (first lambda_sign) (codes "&") second rest
logic_then implication binds first second rest = between_then (first lambda_sign) (codes "=>") second rest
logic_then (equality a) binds first second rest = between_then (first lambda_sign) (codes "=") second rest
logic_then (universal a) binds first second rest = quantified_then (codes "!") (codes "!!") binds first rest
logic_then (existential a) binds first second rest = quantified_then (codes "?") (codes "??") binds first rest
logic_then (choice a) binds first second rest = quantified_then (codes "@+") (codes "@@+") binds first rest

-- the words of a term under so many lambdas, with that sign if it is a lambda itself
abbrev pub signed_then : Vocabulary → ℕ → List ℕ → Tree → List (List ℕ) → List (List ℕ)
signed_then v depth sign (variable n a) rest = (codes "X" ++ decimal n) ∷ rest
signed_then v depth sign (bound i a) rest = (codes "Y" ++ decimal ((depth - i) - 1)) ∷ rest
signed_then v depth sign (symbol s a) rest = v.symbol_word s ∷ rest
signed_then v depth sign (app f x) rest = between_then (λ r. signed_then v depth lambda_sign f r) (codes "@") (λ r. signed_then v depth lambda_sign x r) rest
signed_then v depth sign (lam a t) rest = codes "(" ∷ sign ∷ binder_then v depth a (signed_then v (depth + 1) lambda_sign t (codes ")" ∷ rest))
signed_then v depth sign (logic c x y) rest = logic_then c (is_lambda x) (λ s r. signed_then v depth s x r) (λ r. signed_then v depth lambda_sign y r) rest
signed_then v depth sign absent rest = rest

-- the words of a term
abbrev pub term_then : Vocabulary → Tree → List (List ℕ) → List (List ℕ)
term_then v t rest = signed_then v 0 lambda_sign t rest
