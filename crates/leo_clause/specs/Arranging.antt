-- The arranged form of a clause: no literal stands twice, and variables are numbered as they come.
use Rattle.std.specs.Prelude.{ℕ, zero, suc, nat_eq, Bool, if◌then◌else◌, List, [], ◌∷◌, ◌++◌, map, slice_get, Option, Some, None}
use Rattle.std.specs.List.{list_any}
use Rattle.leo_q0.specs.Terms.{SimpleType, base}
use Rattle.leo_terms.specs.Tree.{Tree, variable, bound, symbol, app, lam, logic, absent}
use Rattle.leo_clause.specs.Trees.{Literal, ClauseTree}
use Rattle.leo_clause.specs.Sameness.{same_literal}

-- `seen` with those that are not there yet behind it, in order and each once
abbrev pub firsts : {X : Type 0} → (X → X → Bool) → List X → List X → List X
firsts same seen [] = seen
firsts same seen (x ∷ xs) = if list_any (same x) seen then firsts same seen xs else firsts same (seen ++ x ∷ []) xs

-- of literals that are equal or turned, the first alone
abbrev pub distinct : List Literal → List Literal
distinct ls = firsts same_literal [] ls

-- the numbers of a term's variables, from left to right
abbrev pub occurring : Tree → List ℕ
occurring (variable n a) = n ∷ []
occurring (bound i a) = []
occurring (symbol s a) = []
occurring (app f x) = occurring f ++ occurring x
occurring (lam a t) = occurring t
occurring (logic c x y) = occurring x ++ occurring y
occurring absent = []

-- those of literals, the left side before the right
abbrev pub occurring_in : List Literal → List ℕ
occurring_in [] = []
occurring_in (l ∷ ls) = (occurring l.left ++ occurring l.right) ++ occurring_in ls

-- the place of a number in a list; past its end where it is not there
abbrev pub place_in : List ℕ → ℕ → ℕ
place_in [] n = zero
place_in (m ∷ ms) n = if nat_eq n m then zero else suc (place_in ms n)

-- each variable gets its place in the list as its number
abbrev pub renumbered : List ℕ → Tree → Tree
renumbered order (variable n a) = variable (place_in order n) a
renumbered order (bound i a) = bound i a
renumbered order (symbol s a) = symbol s a
renumbered order (app f x) = app (renumbered order f) (renumbered order x)
renumbered order (lam a t) = lam a (renumbered order t)
renumbered order (logic c x y) = logic c (renumbered order x) (renumbered order y)
renumbered order absent = absent

abbrev pub renumbered_literal : List ℕ → Literal → Literal
renumbered_literal order l = record { positive = l.positive; left = renumbered order l.left; right = renumbered order l.right }

abbrev pub type_in : Option SimpleType → SimpleType
type_in None = base 0
type_in (Some a) = a

-- the type of a variable
abbrev pub variable_type : List SimpleType → ℕ → SimpleType
variable_type variables n = type_in (slice_get variables n)

-- the clause with these literals, whose variables are those that occur, in the order in which they come
abbrev pub numbered : List SimpleType → List Literal → ClauseTree
numbered variables literals =
    let order = firsts nat_eq [] (occurring_in literals) in
    record { variables = map (variable_type variables) order; literals = map (renumbered_literal order) literals }

abbrev pub arranged : ClauseTree → ClauseTree
arranged c = numbered c.variables (distinct c.literals)
