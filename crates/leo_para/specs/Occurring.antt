-- Which base types occur in clauses.
use Rattle.std.specs.Prelude.{ℕ, ◌≡◌, List, [], ◌∷◌}
use Rattle.leo_q0.specs.Terms.{SimpleType, base, arrow}
use Rattle.leo_terms.specs.Tree.{Tree, variable, bound, symbol, app, lam, logic, absent, Connective, truth, falsity, negation, disjunction, conjunction, implication, equality, universal, existential, choice}
use Rattle.leo_clause.specs.Trees.{Literal, ClauseTree}

abbrev pub TypeLacksBase : ℕ → SimpleType → Type 0
TypeLacksBase n (base m) = m ≡ n → ⊥
TypeLacksBase n (arrow a b) = TypeLacksBase n a × TypeLacksBase n b

abbrev pub ConstantLacksBase : ℕ → Connective → Type 0
ConstantLacksBase n (equality a) = TypeLacksBase n a
ConstantLacksBase n (universal a) = TypeLacksBase n a
ConstantLacksBase n (existential a) = TypeLacksBase n a
ConstantLacksBase n (choice a) = TypeLacksBase n a
ConstantLacksBase n truth = Unit {0}
ConstantLacksBase n falsity = Unit {0}
ConstantLacksBase n negation = Unit {0}
ConstantLacksBase n disjunction = Unit {0}
ConstantLacksBase n conjunction = Unit {0}
ConstantLacksBase n implication = Unit {0}

abbrev pub TermLacksBase : ℕ → Tree → Type 0
TermLacksBase n (variable m a) = TypeLacksBase n a
TermLacksBase n (bound i a) = TypeLacksBase n a
TermLacksBase n (symbol s a) = TypeLacksBase n a
TermLacksBase n (app f x) = TermLacksBase n f × TermLacksBase n x
TermLacksBase n (lam a t) = TypeLacksBase n a × TermLacksBase n t
TermLacksBase n (logic c x y) = ConstantLacksBase n c × TermLacksBase n x × TermLacksBase n y
TermLacksBase n absent = Unit {0}

abbrev pub TypesLackBase : ℕ → List SimpleType → Type 0
TypesLackBase n [] = Unit {0}
TypesLackBase n (a ∷ types) = TypeLacksBase n a × TypesLackBase n types

abbrev pub LiteralsLackBase : ℕ → List Literal → Type 0
LiteralsLackBase n [] = Unit {0}
LiteralsLackBase n (l ∷ ls) = TermLacksBase n l.left × TermLacksBase n l.right × LiteralsLackBase n ls

-- the base type n does not occur in a clause
abbrev pub ClauseLacksBase : ℕ → ClauseTree → Type 0
ClauseLacksBase n c = TypesLackBase n c.variables × LiteralsLackBase n c.literals
