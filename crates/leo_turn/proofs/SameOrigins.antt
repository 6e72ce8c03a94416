-- The same tests, as other crates name them.
use Rattle.std.specs.Prelude.{List, [], ◌∷◌}
use Rattle.leo_q0.specs.Terms.{SimpleType, base, arrow}
use Rattle.leo_terms.specs.Tree.{Tree, variable, bound, symbol, app, lam, logic, absent, Connective, truth, falsity, negation, disjunction, conjunction, implication, equality, universal, existential, choice}
use Rattle.leo_clause.specs.Trees.{Literal, ClauseTree}
use Rattle.leo_kernel.specs.Steps.{StepRule, assume, convert, inst, para, arrange, drop_literal, take_apart, bool_ext, func_ext, decompose, reflexivity, choose, factor, abbreviate, Line}
use Rattle.leo_clausify.specs.Origins.{Origin, IsTypeFrom, AreTypesFrom, IsConstantFrom, IsTermFrom, AreTermsFrom, AreLiteralsFrom, IsClauseFrom, IsRuleFrom, AreLinesFrom}
use Rattle.leo_unify.specs.Origins as unify
use Rattle.leo_conclude.specs.Origins as conclude

abbrev pub tests : Origin → unify.Origin
tests o = record { has_base = o.has_base; has_symbol = o.has_symbol }

module _ (o : Origin) where
  type-to : (a : SimpleType) → IsTypeFrom o a → unify.IsTypeFrom (tests o) a
  type-to (base n) h = h
  type-to (arrow a b) h = (type-to a h.0, type-to b h.1)

  types-to : (types : List SimpleType) → AreTypesFrom o types → unify.AreTypesFrom (tests o) types
  types-to [] h = tt
  types-to (a ∷ types) h = (type-to a h.0, types-to types h.1)

  constant-to : (c : Connective) → IsConstantFrom o c → unify.IsConstantFrom (tests o) c
  constant-to (equality a) h = type-to a h
  constant-to (universal a) h = type-to a h
  constant-to (existential a) h = type-to a h
  constant-to (choice a) h = type-to a h
  constant-to truth h = tt
  constant-to falsity h = tt
  constant-to negation h = tt
  constant-to disjunction h = tt
  constant-to conjunction h = tt
  constant-to implication h = tt

  term-to : (t : Tree) → IsTermFrom o t → unify.IsTermFrom (tests o) t
  term-to (variable n a) h = type-to a h
  term-to (bound i a) h = type-to a h
  term-to (symbol s a) h = (h.0, type-to a h.1)
  term-to (app f x) h = (term-to f h.0, term-to x h.1)
  term-to (lam a t) h = (type-to a h.0, term-to t h.1)
  term-to (logic c x y) h = (constant-to c h.0, term-to x h.1, term-to y h.2)
  term-to absent h = tt

  literals-to : (ls : List Literal) → AreLiteralsFrom o ls → conclude.AreLiteralsFrom (tests o) ls
  literals-to [] h = tt
  literals-to (l ∷ ls) h = ((term-to l.left h.0, term-to l.right h.1), literals-to ls h.2)

  pub clause-to : (k : ClauseTree) → IsClauseFrom o k → conclude.IsClauseFrom (tests o) k
  clause-to k h = (types-to k.variables h.0, literals-to k.literals h.1)

  type-of : (a : SimpleType) → unify.IsTypeFrom (tests o) a → IsTypeFrom o a
  type-of (base n) h = h
  type-of (arrow a b) h = (type-of a h.0, type-of b h.1)

  types-of : (types : List SimpleType) → unify.AreTypesFrom (tests o) types → AreTypesFrom o types
  types-of [] h = tt
  types-of (a ∷ types) h = (type-of a h.0, types-of types h.1)

  constant-of : (c : Connective) → unify.IsConstantFrom (tests o) c → IsConstantFrom o c
  constant-of (equality a) h = type-of a h
  constant-of (universal a) h = type-of a h
  constant-of (existential a) h = type-of a h
  constant-of (choice a) h = type-of a h
  constant-of truth h = tt
  constant-of falsity h = tt
  constant-of negation h = tt
  constant-of disjunction h = tt
  constant-of conjunction h = tt
  constant-of implication h = tt

  pub term-of : (t : Tree) → unify.IsTermFrom (tests o) t → IsTermFrom o t
  term-of (variable n a) h = type-of a h
  term-of (bound i a) h = type-of a h
  term-of (symbol s a) h = (h.0, type-of a h.1)
  term-of (app f x) h = (term-of f h.0, term-of x h.1)
  term-of (lam a t) h = (type-of a h.0, term-of t h.1)
  term-of (logic c x y) h = (constant-of c h.0, term-of x h.1, term-of y h.2)
  term-of absent h = tt

  terms-of : (ts : List Tree) → unify.AreTermsFrom (tests o) ts → AreTermsFrom o ts
  terms-of [] h = tt
  terms-of (t ∷ ts) h = (term-of t h.0, terms-of ts h.1)

  literals-of : (ls : List Literal) → conclude.AreLiteralsFrom (tests o) ls → AreLiteralsFrom o ls
  literals-of [] h = tt
  literals-of (l ∷ ls) h = (term-of l.left h.0.0, term-of l.right h.0.1, literals-of ls h.1)

  clause-of : (k : ClauseTree) → conclude.IsClauseFrom (tests o) k → IsClauseFrom o k
  clause-of k h = (types-of k.variables h.0, literals-of k.literals h.1)

  rule-of : (r : StepRule) → conclude.IsRuleFrom (tests o) r → IsRuleFrom o r
  rule-of (inst p sigma) h = terms-of sigma h
  rule-of (abbreviate s) h = h
  rule-of (assume n) h = tt
  rule-of (convert p) h = tt
  rule-of (para p i s q j r path) h = tt
  rule-of (arrange p) h = tt
  rule-of (drop_literal p i) h = tt
  rule-of (take_apart p i kind a) h = tt
  rule-of (bool_ext p i half) h = tt
  rule-of (func_ext p i a) h = tt
  rule-of (decompose p i) h = tt
  rule-of reflexivity h = tt
  rule-of choose h = tt
  rule-of (factor p i j) h = tt

  pub lines-of : (lines : List Line) → conclude.AreLinesFrom (tests o) lines → AreLinesFrom o lines
  lines-of [] h = tt
  lines-of (l ∷ lines) h = ((clause-of l.clause h.0.0, rule-of l.rule h.0.1), lines-of lines h.1)
