-- The texts of types and of terms.
use Rattle.std.specs.Prelude.{ℕ, ◌+◌, ◌-◌, Bool, true, false, List, [], ◌++◌, codes, decimal, if◌then◌else◌}
use Rattle.leo_q0.specs.Terms.{SimpleType, base, arrow}
use Rattle.leo_terms.specs.Tree.{Tree, variable, bound, symbol, app, lam, logic, absent, Connective, truth, falsity, negation, disjunction, conjunction, implication, equality, universal, existential, choice}
use Rattle.leo_tstp.specs.Vocabulary.{Vocabulary}
use Rattle.leo_tstp.specs.Words.{in_brackets, behind_sign}

abbrev pub type_text : Vocabulary → SimpleType → List ℕ
type_text v (base b) = v.base_word b
type_text v (arrow a b) = in_brackets (type_text v a) (codes " > ") (type_text v b)

-- a variable of a clause, by its number
unfoldable pub variable_name : ℕ → List ℕ
variable_name n = codes "X" ++ decimal n

-- the variable of a lambda, by how many lambdas stand around it
unfoldable pub bound_name : ℕ → List ℕ
bound_name n = codes "Y" ++ decimal n

-- the sign of a lambda
abbrev pub lambda_sign : List ℕ
lambda_sign = codes "^"

-- a binder's sign and its variable with a type
unfoldable pub binder_head : List ℕ → ℕ → List ℕ → List ℕ
binder_head sign n ty = sign ++ (codes " [" ++ (bound_name n ++ (codes ": " ++ (ty ++ codes "] : "))))

-- a binder with its body
unfoldable pub binder_text : List ℕ → ℕ → List ℕ → List ℕ → List ℕ
binder_text sign n ty body = codes "( " ++ (binder_head sign n ty ++ (body ++ codes " )"))

abbrev pub is_lambda : Tree → Bool
is_lambda (lam a t) = true
is_lambda (variable n a) = false
is_lambda (bound i a) = false
is_lambda (symbol s a) = false
is_lambda (app f x) = false
is_lambda (logic c x y) = false
is_lambda absent = false

-- a quantifier or choice: the sign of a binder where its argument is a lambda, and else a constant that is applied to it.
-- `argument` is the text of the argument, by the sign for a lambda
abbrev pub quantified : List ℕ → List ℕ → Bool → (List ℕ → List ℕ) → List ℕ
quantified sign constant binds argument = if binds then argument sign else behind_sign constant (argument lambda_sign)

-- a logical constant with its arguments
abbrev pub logic_text : Connective → Bool → (List ℕ → List ℕ) → List ℕ → List ℕ
logic_text truth binds first second = codes "$true"
logic_text falsity binds first second = codes "$false"
logic_text negation binds first second = behind_sign (codes "~ ") (first lambda_sign)
logic_text disjunction binds first second = in_brackets (first lambda_sign) (codes " | ") second
logic_text conjunction binds first second = in_brackets (first lambda_sign) (codes " & ") second
logic_text implication binds first second = in_brackets (first lambda_sign) (codes " => ") second
logic_text (equality a) binds first second = in_brackets (first lambda_sign) (codes " = ") second
logic_text (universal a) binds first second = quantified (codes "!") (codes "!! @ ") binds first
logic_text (existential a) binds first second = quantified (codes "?") (codes "?? @ ") binds first
logic_text (choice a) binds first second = quantified (codes "@+") (codes "@@+ @ ") binds first

-- the text of a term under so many lambdas, with that sign if it is a lambda itself
abbrev pub signed_text : Vocabulary → ℕ → List ℕ → Tree → List ℕ
signed_text v depth sign (variable n a) = variable_name n
signed_text v depth sign (bound i a) = bound_name ((depth - i) - 1)
signed_text v depth sign (symbol s a) = v.symbol_word s
signed_text v depth sign (app f x) = in_brackets (signed_text v depth lambda_sign f) (codes " @ ") (signed_text v depth lambda_sign x)
signed_text v depth sign (lam a t) = binder_text sign depth (type_text v a) (signed_text v (depth + 1) lambda_sign t)
signed_text v depth sign (logic c x y) = logic_text c (is_lambda x) (λ s. signed_text v depth s x) (signed_text v depth lambda_sign y)
signed_text v depth sign absent = []

-- the text of a term
abbrev pub term_text : Vocabulary → Tree → List ℕ
term_text v t = signed_text v 0 lambda_sign t
