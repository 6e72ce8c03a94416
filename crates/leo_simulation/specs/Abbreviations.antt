-- What a line says in Q0: the symbols that lines abbreviate stand for their closed terms.
use Rattle.std.specs.Prelude.{ℕ, ◌≡◌, nat_eq, if◌then◌else◌, List, [], ◌∷◌, Option, Some, None}
use Rattle.leo_q0.specs.Terms.{SimpleType, Term}
use Rattle.leo_terms.specs.Tree.{Tree, variable, bound, symbol, app, lam, logic, absent}
use Rattle.leo_clause.specs.Trees.{Literal, ClauseTree}
use Rattle.leo_clause.specs.Formulas.{Abbreviations, unfolded, clause_formula}
use Rattle.leo_kernel.specs.Symbols.{only_literal}
use Rattle.leo_kernel.specs.Steps.{StepRule, assume, convert, inst, para, arrange, drop_literal, take_apart, bool_ext, func_ext, decompose, reflexivity, choose, factor, abbreviate, Line}

-- the symbol stands for the term, in which earlier ones are unfolded
abbrev pub with_symbol : Abbreviations → ℕ → Option Literal → Abbreviations
with_symbol terms s None n = terms n
with_symbol terms s (Some l) n = if nat_eq n s then Some (unfolded terms l.right) else terms n

abbrev pub with_rule : Abbreviations → StepRule → List Literal → Abbreviations
with_rule terms (abbreviate s) ls = with_symbol terms s (only_literal ls)
with_rule terms (assume h) ls = terms
with_rule terms (convert p) ls = terms
with_rule terms (inst p sigma) ls = terms
with_rule terms (para p i side q j place_side path) ls = terms
with_rule terms (arrange p) ls = terms
with_rule terms (drop_literal p i) ls = terms
with_rule terms (take_apart p i k a) ls = terms
with_rule terms (bool_ext p i half) ls = terms
with_rule terms (func_ext p i a) ls = terms
with_rule terms (decompose p i) ls = terms
with_rule terms reflexivity ls = terms
with_rule terms choose ls = terms
with_rule terms (factor p i j) ls = terms

abbrev pub introduced : Abbreviations → List Line → Abbreviations
introduced terms [] = terms
introduced terms (l ∷ ls) = introduced (with_rule terms l.rule l.clause.literals) ls

-- nothing stands for a symbol at first
abbrev pub nothing : Abbreviations
nothing n = None

-- the formula of a clause after these lines
abbrev pub formula_after : List Line → ClauseTree → Term
formula_after lines c = clause_formula (introduced nothing lines) c

-- each symbol has one type
abbrev pub HasSymbolTypes : (ℕ → SimpleType) → Tree → Type 0
HasSymbolTypes types (variable n a) = Unit {0}
HasSymbolTypes types (bound i a) = Unit {0}
HasSymbolTypes types (symbol s a) = a ≡ types s
HasSymbolTypes types (app f x) = HasSymbolTypes types f × HasSymbolTypes types x
HasSymbolTypes types (lam a t) = HasSymbolTypes types t
HasSymbolTypes types (logic c x y) = HasSymbolTypes types x × HasSymbolTypes types y
HasSymbolTypes types absent = Unit {0}

abbrev pub LiteralsHaveSymbolTypes : (ℕ → SimpleType) → List Literal → Type 0
LiteralsHaveSymbolTypes types [] = Unit {0}
LiteralsHaveSymbolTypes types (l ∷ ls) = HasSymbolTypes types l.left × HasSymbolTypes types l.right × LiteralsHaveSymbolTypes types ls

abbrev pub LinesHaveSymbolTypes : (ℕ → SimpleType) → List Line → Type 0
LinesHaveSymbolTypes types [] = Unit {0}
LinesHaveSymbolTypes types (l ∷ ls) = LiteralsHaveSymbolTypes types l.clause.literals × LinesHaveSymbolTypes types ls
