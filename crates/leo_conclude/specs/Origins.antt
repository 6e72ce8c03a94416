-- Where the base types and the symbols of clauses and of lines come from, by the tests of an origin.
use Rattle.std.specs.Prelude.{◌≡◌, true, List, [], ◌∷◌}
use Rattle.leo_clause.specs.Trees.{Literal, ClauseTree}
use Rattle.leo_kernel.specs.Steps.{StepRule, assume, convert, inst, para, arrange, drop_literal, take_apart, bool_ext, func_ext, decompose, reflexivity, choose, factor, abbreviate, Line}
use Rattle.leo_unify.specs.Origins.{Origin, AreTypesFrom, IsTermFrom, AreTermsFrom, AreSolutionsFrom}
use Rattle.leo_unify.specs.Search.{Solution}

abbrev pub IsLiteralFrom : Origin → Literal → Type 0
IsLiteralFrom o l = IsTermFrom o l.left × IsTermFrom o l.right

abbrev pub AreLiteralsFrom : Origin → List Literal → Type 0
AreLiteralsFrom o [] = Unit {0}
AreLiteralsFrom o (l ∷ ls) = IsLiteralFrom o l × AreLiteralsFrom o ls

-- each base type of the variables and of the literals, and each symbol of the literals, is one of these
abbrev pub IsClauseFrom : Origin → ClauseTree → Type 0
IsClauseFrom o c = AreTypesFrom o c.variables × AreLiteralsFrom o c.literals

-- so is each in the terms that a rule was given, and a symbol that it names
abbrev pub IsRuleFrom : Origin → StepRule → Type 0
IsRuleFrom o (inst p sigma) = AreTermsFrom o sigma
IsRuleFrom o (abbreviate s) = o.has_symbol s ≡ true
IsRuleFrom o (assume h) = Unit {0}
IsRuleFrom o (convert p) = Unit {0}
IsRuleFrom o (para p i s q j r path) = Unit {0}
IsRuleFrom o (arrange p) = Unit {0}
IsRuleFrom o (drop_literal p i) = Unit {0}
IsRuleFrom o (take_apart p i kind a) = Unit {0}
IsRuleFrom o (bool_ext p i half) = Unit {0}
IsRuleFrom o (func_ext p i a) = Unit {0}
IsRuleFrom o (decompose p i) = Unit {0}
IsRuleFrom o reflexivity = Unit {0}
IsRuleFrom o choose = Unit {0}
IsRuleFrom o (factor p i j) = Unit {0}

abbrev pub AreLinesFrom : Origin → List Line → Type 0
AreLinesFrom o [] = Unit {0}
AreLinesFrom o (l ∷ ls) = (IsClauseFrom o l.clause × IsRuleFrom o l.rule) × AreLinesFrom o ls

-- each base type of a solution is `$o` or stands in the clause, and each symbol stands there. For private contracts, as what follows
abbrev pub IsSolutionFrom : ClauseTree → Solution → Type 0
IsSolutionFrom c s = (o : Origin) → o.has_base 0 ≡ true → IsClauseFrom o c → AreTypesFrom o s.variables × AreTermsFrom o s.terms

abbrev pub AreSolutionsFromClause : ClauseTree → List Solution → Type 0
AreSolutionsFromClause c solutions = (o : Origin) → o.has_base 0 ≡ true → IsClauseFrom o c → AreSolutionsFrom o solutions
