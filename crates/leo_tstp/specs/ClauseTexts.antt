-- The texts of clauses.
use Rattle.std.specs.Prelude.{ℕ, ◌+◌, Bool, List, [], ◌∷◌, ◌++◌, codes, if◌then◌else◌}
use Rattle.std.specs.List.{flat_map}
use Rattle.leo_q0.specs.Terms.{SimpleType}
use Rattle.leo_clause.specs.Trees.{Literal, ClauseTree}
use Rattle.leo_tstp.specs.Vocabulary.{Vocabulary}
use Rattle.leo_tstp.specs.Words.{in_brackets}
use Rattle.leo_tstp.specs.TermTexts.{type_text, term_text, variable_name}

-- a variable with its type
unfoldable pub declared_variable : Vocabulary → ℕ → SimpleType → List ℕ
declared_variable v n a = variable_name n ++ (codes ": " ++ type_text v a)

-- variables from a number on, each behind a comma
abbrev pub further_variables : Vocabulary → ℕ → List SimpleType → List ℕ
further_variables v n [] = []
further_variables v n (a ∷ others) = codes "," ++ (declared_variable v n a ++ further_variables v (n + 1) others)

-- the variables of a clause, if it has some
abbrev pub variables_text : Vocabulary → List SimpleType → List ℕ
variables_text v [] = []
variables_text v (a ∷ others) = codes "! [" ++ (declared_variable v 0 a ++ (further_variables v 1 others ++ codes "] : "))

abbrev pub equation_sign : Bool → List ℕ
equation_sign positive = if positive then codes " = " else codes " != "

abbrev pub literal_text : Vocabulary → Literal → List ℕ
literal_text v l = in_brackets (term_text v l.left) (equation_sign l.positive) (term_text v l.right)

-- a literal behind another
abbrev pub further_literal : Vocabulary → Literal → List ℕ
further_literal v l = codes " | " ++ literal_text v l

abbrev pub further_literals : Vocabulary → List Literal → List ℕ
further_literals v ls = flat_map (further_literal v) ls

-- a literal, or several in brackets
abbrev pub disjunction_text : Vocabulary → Literal → List Literal → List ℕ
disjunction_text v l [] = literal_text v l
disjunction_text v l (k ∷ ks) = codes "( " ++ (literal_text v l ++ (further_literals v (k ∷ ks) ++ codes " )"))

-- falsity, where there is none
abbrev pub literals_text : Vocabulary → List Literal → List ℕ
literals_text v [] = codes "$false"
literals_text v (l ∷ ls) = disjunction_text v l ls

abbrev pub clause_text : Vocabulary → ClauseTree → List ℕ
clause_text v c = variables_text v c.variables ++ literals_text v c.literals
