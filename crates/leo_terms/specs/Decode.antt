-- Terms with de Bruijn indices as terms of Q0, whose variables have names.
use Rattle.std.specs.Prelude.{ℕ, ◌+◌, ◌-◌, ◌<◌, if◌then◌else◌, List, slice_get, Option, Some, None}
use Rattle.std.specs.Option.{option_map}
use Rattle.leo_q0.specs.Terms.{SimpleType, Variable, same_variable, Term, variable as q_variable, constant, identity, choice as q_choice, apply, lambda}
use Rattle.leo_q0.specs.Connectives.{true_term, false_term, not_term, or_term, and_term, imp_term, all_term, some_term, apply_two}
use Rattle.leo_terms.specs.Tree.{Tree, variable, bound, symbol, app, lam, logic, absent, Connective, truth, falsity, negation, disjunction, conjunction, implication, equality, universal, existential, choice}

-- the variable with this number and type
abbrev pub named : ℕ → SimpleType → Variable
named n a = record { number = n; type = a }

-- a logical constant, which stands for its term, with the arguments that it takes
abbrev pub connected : Connective → Term → Term → Term
connected truth s t = true_term
connected falsity s t = false_term
connected negation s t = apply not_term s
connected disjunction s t = apply_two or_term s t
connected conjunction s t = apply_two and_term s t
connected implication s t = apply_two imp_term s t
connected (equality a) s t = apply_two (identity a) s t
connected (universal a) s t = apply (all_term a) s
connected (existential a) s t = apply (some_term a) s
connected (choice a) s t = apply (q_choice a) s

-- the term of Q0, where `next` is the number of the next lambda's variable: an index is the variable of the lambda that it counts to
abbrev pub decoded : ℕ → Tree → Term
decoded next (variable n a) = q_variable (named n a)
decoded next (bound i a) = q_variable (named (next - (i + 1)) a)
decoded next (symbol n a) = constant n a
decoded next (app f x) = apply (decoded next f) (decoded next x)
decoded next (lam a t) = lambda (named next a) (decoded (next + 1) t)
decoded next (logic c x y) = connected c (decoded next x) (decoded next y)
decoded next absent = true_term

-- variables have numbers below `first`, and the indices lead to variables from there on, below `next`
abbrev pub IsFitting : ℕ → ℕ → Tree → Type 0
IsFitting first next (variable n a) = n < first
IsFitting first next (bound i a) = first + i < next
IsFitting first next (symbol n a) = Unit {0}
IsFitting first next (app f x) = IsFitting first next f × IsFitting first next x
IsFitting first next (lam a t) = IsFitting first (next + 1) t
IsFitting first next (logic c x y) = IsFitting first next x × IsFitting first next y
IsFitting first next absent = Unit {0}

-- what stands for a variable, if another term is given for it
abbrev pub given_or : Variable → Option Term → Term
given_or v None = q_variable v
given_or v (Some s) = s

-- the same with nothing given for one variable
abbrev pub without : Variable → (Variable → Option Term) → Variable → Option Term
without v given w = if same_variable w v then None else given w

-- the term with the given terms in the place of the free occurrences of their variables, all at once; it renames nothing
abbrev pub replaced_all : (Variable → Option Term) → Term → Term
replaced_all given (q_variable v) = given_or v (given v)
replaced_all given (constant n a) = constant n a
replaced_all given (identity a) = identity a
replaced_all given (q_choice a) = q_choice a
replaced_all given (apply f t) = apply (replaced_all given f) (replaced_all given t)
replaced_all given (lambda v t) = lambda v (replaced_all (without v given) t)

-- the n-th term is given for the variable with number n
abbrev pub given_terms : ℕ → List Tree → Variable → Option Term
given_terms next terms v = option_map (decoded next) (slice_get terms v.number)
