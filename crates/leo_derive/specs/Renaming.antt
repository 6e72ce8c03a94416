-- Lines whose symbols have other numbers.
use Rattle.std.specs.Prelude.{ℕ, ◌≡◌, List, [], ◌∷◌, ◌++◌, map}
use Rattle.leo_terms.specs.Tree.{Tree, variable, bound, symbol, app, lam, logic, absent}
use Rattle.leo_clause.specs.Trees.{Literal, ClauseTree}
use Rattle.leo_kernel.specs.Steps.{StepRule, assume, convert, inst, para, arrange, drop_literal, take_apart, bool_ext, func_ext, decompose, reflexivity, choose, factor, abbreviate, Line}
use Rattle.leo_derive.specs.Symbols.{symbols_in_line, IsOneOf}

-- the term with other numbers for its symbols
abbrev pub symbols_mapped : (ℕ → ℕ) → Tree → Tree
symbols_mapped f (variable n a) = variable n a
symbols_mapped f (bound i a) = bound i a
symbols_mapped f (symbol s a) = symbol (f s) a
symbols_mapped f (app g x) = app (symbols_mapped f g) (symbols_mapped f x)
symbols_mapped f (lam a t) = lam a (symbols_mapped f t)
symbols_mapped f (logic c x y) = logic c (symbols_mapped f x) (symbols_mapped f y)
symbols_mapped f absent = absent

abbrev pub literal_mapped : (ℕ → ℕ) → Literal → Literal
literal_mapped f l = record { positive = l.positive; left = symbols_mapped f l.left; right = symbols_mapped f l.right }

abbrev pub clause_mapped : (ℕ → ℕ) → ClauseTree → ClauseTree
clause_mapped f c = record { variables = c.variables; literals = map (literal_mapped f) c.literals }

-- the rule with other numbers for the symbols of its terms, and for its own; those of lines stay
abbrev pub rule_mapped : (ℕ → ℕ) → StepRule → StepRule
rule_mapped f (assume h) = assume h
rule_mapped f (convert p) = convert p
rule_mapped f (inst p sigma) = inst p (map (symbols_mapped f) sigma)
rule_mapped f (para p i s q j r path) = para p i s q j r path
rule_mapped f (arrange p) = arrange p
rule_mapped f (drop_literal p i) = drop_literal p i
rule_mapped f (take_apart p i kind a) = take_apart p i kind a
rule_mapped f (bool_ext p i half) = bool_ext p i half
rule_mapped f (func_ext p i a) = func_ext p i a
rule_mapped f (decompose p i) = decompose p i
rule_mapped f reflexivity = reflexivity
rule_mapped f choose = choose
rule_mapped f (factor p i j) = factor p i j
rule_mapped f (abbreviate s) = abbreviate (f s)

abbrev pub line_mapped : (ℕ → ℕ) → Line → Line
line_mapped f l = record { clause = clause_mapped f l.clause; rule = rule_mapped f l.rule }

-- the symbols of lines
abbrev pub symbols_in_lines : List Line → List ℕ
symbols_in_lines [] = []
symbols_in_lines (l ∷ ls) = symbols_in_line l ++ symbols_in_lines ls

-- different ones of these symbols get different numbers
abbrev pub IsInjectiveOn : List ℕ → (ℕ → ℕ) → Type 0
IsInjectiveOn symbols f = (m n : ℕ) → IsOneOf m symbols → IsOneOf n symbols → f m ≡ f n → m ≡ n
