-- How large a term is, and which loose indices and variables it may have.
use Rattle.std.specs.Prelude.{ℕ, suc, ◌+◌, ◌-◌, max}
use Rattle.leo_terms.specs.Tree.{Tree, variable, bound, symbol, app, lam, logic, absent}

-- one for each variable, index, symbol, logical constant and lambda
abbrev pub tree_weight : Tree → ℕ
tree_weight (variable n a) = 1
tree_weight (bound i a) = 1
tree_weight (symbol s a) = 1
tree_weight (app f x) = tree_weight f + tree_weight x
tree_weight (lam a t) = suc (tree_weight t)
tree_weight (logic c x y) = suc (tree_weight x + tree_weight y)
tree_weight absent = 0

-- how many lambdas must stand around the term so that none of its indices is loose
abbrev pub loose_range : Tree → ℕ
loose_range (variable n a) = 0
loose_range (bound i a) = suc i
loose_range (symbol s a) = 0
loose_range (app f x) = max (loose_range f) (loose_range x)
loose_range (lam a t) = loose_range t - 1
loose_range (logic c x y) = max (loose_range x) (loose_range y)
loose_range absent = 0

-- the least number that is greater than those of all variables of the term
abbrev pub variable_range : Tree → ℕ
variable_range (variable n a) = suc n
variable_range (bound i a) = 0
variable_range (symbol s a) = 0
variable_range (app f x) = max (variable_range f) (variable_range x)
variable_range (lam a t) = variable_range t
variable_range (logic c x y) = max (variable_range x) (variable_range y)
variable_range absent = 0
