-- Where the base types and the symbols of terms come from, by tests that say yes to all that were there before.
use Rattle.std.specs.Prelude.{ℕ, ◌≡◌, Bool, true, List, [], ◌∷◌}
use Rattle.leo_q0.specs.Terms.{SimpleType, base, arrow}
use Rattle.leo_terms.specs.Tree.{Tree, variable, bound, symbol, app, lam, logic, absent, Connective, truth, falsity, negation, disjunction, conjunction, implication, equality, universal, existential, choice}
use Rattle.leo_unify.specs.Pairs.{Pair}
use Rattle.leo_unify.specs.Search.{Solution}

-- the tests: of the number of a base type, and of the number of a symbol
pub record Origin : Type 0 where
  pub has_base : ℕ → Bool
  pub has_symbol : ℕ → Bool

-- each base type of the type is one of these
abbrev pub IsTypeFrom : Origin → SimpleType → Type 0
IsTypeFrom o (base n) = o.has_base n ≡ true
IsTypeFrom o (arrow a b) = IsTypeFrom o a × IsTypeFrom o b

abbrev pub AreTypesFrom : Origin → List SimpleType → Type 0
AreTypesFrom o [] = Unit {0}
AreTypesFrom o (a ∷ types) = IsTypeFrom o a × AreTypesFrom o types

abbrev pub IsConstantFrom : Origin → Connective → Type 0
IsConstantFrom o truth = Unit {0}
IsConstantFrom o falsity = Unit {0}
IsConstantFrom o negation = Unit {0}
IsConstantFrom o disjunction = Unit {0}
IsConstantFrom o conjunction = Unit {0}
IsConstantFrom o implication = Unit {0}
IsConstantFrom o (equality a) = IsTypeFrom o a
IsConstantFrom o (universal a) = IsTypeFrom o a
IsConstantFrom o (existential a) = IsTypeFrom o a
IsConstantFrom o (choice a) = IsTypeFrom o a

-- each base type and each symbol of the term is one of these
abbrev pub IsTermFrom : Origin → Tree → Type 0
IsTermFrom o (variable n a) = IsTypeFrom o a
IsTermFrom o (bound i a) = IsTypeFrom o a
IsTermFrom o (symbol s a) = (o.has_symbol s ≡ true) × IsTypeFrom o a
IsTermFrom o (app f x) = IsTermFrom o f × IsTermFrom o x
IsTermFrom o (lam a t) = IsTypeFrom o a × IsTermFrom o t
IsTermFrom o (logic c x y) = IsConstantFrom o c × IsTermFrom o x × IsTermFrom o y
IsTermFrom o absent = Unit {0}

abbrev pub AreTermsFrom : Origin → List Tree → Type 0
AreTermsFrom o [] = Unit {0}
AreTermsFrom o (t ∷ terms) = IsTermFrom o t × AreTermsFrom o terms

abbrev pub ArePairsFrom : Origin → List Pair → Type 0
ArePairsFrom o [] = Unit {0}
ArePairsFrom o (p ∷ ps) = IsTermFrom o p.left × IsTermFrom o p.right × ArePairsFrom o ps

abbrev pub AreSolutionsFrom : Origin → List Solution → Type 0
AreSolutionsFrom o [] = Unit {0}
AreSolutionsFrom o (s ∷ solutions) = AreTypesFrom o s.variables × AreTermsFrom o s.terms × AreSolutionsFrom o solutions
