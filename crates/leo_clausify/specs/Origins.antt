-- Where the base types and the symbols of clauses and lines come from, by tests that say yes to all that were there before.
use Rattle.std.specs.Prelude.{ℕ, ◌≡◌, Bool, true, List, [], ◌∷◌, slice_get, Some}
use Rattle.leo_q0.specs.Terms.{SimpleType, base, arrow}
use Rattle.leo_terms.specs.Tree.{Tree, variable, bound, symbol, app, lam, logic, absent, Connective, truth, falsity, negation, disjunction, conjunction, implication, equality, universal, existential, choice}
use Rattle.leo_clause.specs.Choices.{Choice}
use Rattle.leo_clause.specs.Trees.{Literal, ClauseTree}
use Rattle.leo_kernel.specs.Steps.{StepRule, assume, convert, inst, para, arrange, drop_literal, take_apart, bool_ext, func_ext, decompose, reflexivity, choose, factor, abbreviate, Line}

-- the tests: of the number of a base type, and of the number of a symbol
pub record Origin : Type 0 where
  pub has_base : ℕ → Bool
  pub has_symbol : ℕ → Bool

-- each base type of the type is one of these
abbrev pub IsTypeFrom : Origin → SimpleType → Type 0
IsTypeFrom o (base n) = o.has_base n ≡ true
IsTypeFrom o (arrow a b) = IsTypeFrom o a × IsTypeFrom o b

abbrev pub AreTypesFrom : Origin → List SimpleType → Type 0
AreTypesFrom o [] = Unit {0}
AreTypesFrom o (a ∷ types) = IsTypeFrom o a × AreTypesFrom o types

abbrev pub IsConstantFrom : Origin → Connective → Type 0
IsConstantFrom o truth = Unit {0}
IsConstantFrom o falsity = Unit {0}
IsConstantFrom o negation = Unit {0}
IsConstantFrom o disjunction = Unit {0}
IsConstantFrom o conjunction = Unit {0}
IsConstantFrom o implication = Unit {0}
IsConstantFrom o (equality a) = IsTypeFrom o a
IsConstantFrom o (universal a) = IsTypeFrom o a
IsConstantFrom o (existential a) = IsTypeFrom o a
IsConstantFrom o (choice a) = IsTypeFrom o a

-- each base type and each symbol of the term is one of these
abbrev pub IsTermFrom : Origin → Tree → Type 0
IsTermFrom o (variable n a) = IsTypeFrom o a
IsTermFrom o (bound i a) = IsTypeFrom o a
IsTermFrom o (symbol s a) = (o.has_symbol s ≡ true) × IsTypeFrom o a
IsTermFrom o (app f x) = IsTermFrom o f × IsTermFrom o x
IsTermFrom o (lam a t) = IsTypeFrom o a × IsTermFrom o t
IsTermFrom o (logic c x y) = IsConstantFrom o c × IsTermFrom o x × IsTermFrom o y
IsTermFrom o absent = Unit {0}

abbrev pub AreTermsFrom : Origin → List Tree → Type 0
AreTermsFrom o [] = Unit {0}
AreTermsFrom o (t ∷ terms) = IsTermFrom o t × AreTermsFrom o terms

abbrev pub AreLiteralsFrom : Origin → List Literal → Type 0
AreLiteralsFrom o [] = Unit {0}
AreLiteralsFrom o (l ∷ ls) = IsTermFrom o l.left × IsTermFrom o l.right × AreLiteralsFrom o ls

-- each base type of a clause's variables and literals, and each symbol
abbrev pub IsClauseFrom : Origin → ClauseTree → Type 0
IsClauseFrom o c = AreTypesFrom o c.variables × AreLiteralsFrom o c.literals

abbrev pub AreClausesFrom : Origin → List ClauseTree → Type 0
AreClausesFrom o [] = Unit {0}
AreClausesFrom o (c ∷ cs) = IsClauseFrom o c × AreClausesFrom o cs

-- a choice symbol, and what stands in its term
abbrev pub IsChoiceFrom : Origin → Choice → Type 0
IsChoiceFrom o k = (o.has_symbol k.number ≡ true) × IsTermFrom o k.term

abbrev pub AreChoicesFrom : Origin → List Choice → Type 0
AreChoicesFrom o choices = (n : ℕ) (k : Choice) → slice_get choices n ≡ Some k → IsChoiceFrom o k

-- what stands in a rule
abbrev pub IsRuleFrom : Origin → StepRule → Type 0
IsRuleFrom o (inst p sigma) = AreTermsFrom o sigma
IsRuleFrom o (abbreviate s) = o.has_symbol s ≡ true
IsRuleFrom o (assume h) = Unit {0}
IsRuleFrom o (convert p) = Unit {0}
IsRuleFrom o (para p i side q j place_side path) = Unit {0}
IsRuleFrom o (arrange p) = Unit {0}
IsRuleFrom o (drop_literal p i) = Unit {0}
IsRuleFrom o (take_apart p i k a) = Unit {0}
IsRuleFrom o (bool_ext p i half) = Unit {0}
IsRuleFrom o (func_ext p i a) = Unit {0}
IsRuleFrom o (decompose p i) = Unit {0}
IsRuleFrom o reflexivity = Unit {0}
IsRuleFrom o choose = Unit {0}
IsRuleFrom o (factor p i j) = Unit {0}

-- a line, with what its rule names
abbrev pub IsLineFrom : Origin → Line → Type 0
IsLineFrom o l = IsClauseFrom o l.clause × IsRuleFrom o l.rule

abbrev pub AreLinesFrom : Origin → List Line → Type 0
AreLinesFrom o [] = Unit {0}
AreLinesFrom o (l ∷ lines) = IsLineFrom o l × AreLinesFrom o lines
