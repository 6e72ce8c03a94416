-- The head of a term, and whether two heads meet.
use Rattle.std.specs.Prelude.{ℕ, nat_eq, Bool, true, false, List, [], ◌∷◌}
use Rattle.leo_terms.specs.Tree.{Tree, variable, bound, symbol, app, lam, logic, absent, Connective}
use Rattle.leo_clause.specs.Sameness.{same_connective}

-- the term below its leading lambdas
abbrev pub below_lambdas : Tree → Tree
below_lambdas (lam a t) = below_lambdas t
below_lambdas (variable n a) = variable n a
below_lambdas (bound i a) = bound i a
below_lambdas (symbol s a) = symbol s a
below_lambdas (app f x) = app f x
below_lambdas (logic c x y) = logic c x y
below_lambdas absent = absent

-- what is applied to arguments, one after the other; a logical constant stands there with its own arguments
abbrev pub applied_head : Tree → Tree
applied_head (app f x) = applied_head f
applied_head (variable n a) = variable n a
applied_head (bound i a) = bound i a
applied_head (symbol s a) = symbol s a
applied_head (lam a t) = lam a t
applied_head (logic c x y) = logic c x y
applied_head absent = absent

-- the head of a term
abbrev pub head : Tree → Tree
head t = applied_head (below_lambdas t)

-- what may meet: a variable, a symbol, a logical constant; anything else meets variables alone
pub data Top : Type 0 where
  some_variable : Top
  one_symbol : ℕ → Top
  one_constant : Connective → Top
  other_top : Top

abbrev pub top : Tree → Top
top (variable n a) = some_variable
top (symbol s a) = one_symbol s
top (logic c x y) = one_constant c
top (bound i a) = other_top
top (app f x) = other_top
top (lam a t) = other_top
top absent = other_top

-- two are the same symbol or the same logical constant; or one of them is a variable, and the second is a whole side
abbrev pub tops_meet : Bool → Top → Top → Bool
tops_meet whole some_variable some_variable = false
tops_meet whole some_variable (one_symbol n) = whole
tops_meet whole some_variable (one_constant d) = whole
tops_meet whole some_variable other_top = whole
tops_meet whole (one_symbol m) some_variable = whole
tops_meet whole (one_symbol m) (one_symbol n) = nat_eq m n
tops_meet whole (one_symbol m) (one_constant d) = false
tops_meet whole (one_symbol m) other_top = false
tops_meet whole (one_constant c) some_variable = whole
tops_meet whole (one_constant c) (one_symbol n) = false
tops_meet whole (one_constant c) (one_constant d) = same_connective c d
tops_meet whole (one_constant c) other_top = false
tops_meet whole other_top some_variable = whole
tops_meet whole other_top (one_symbol n) = false
tops_meet whole other_top (one_constant d) = false
tops_meet whole other_top other_top = false

-- the path leads to the whole term
abbrev pub is_whole : List ℕ → Bool
is_whole [] = true
is_whole (n ∷ path) = false

-- the heads of two terms meet, of which the second is at this path
abbrev pub heads_meet : List ℕ → Tree → Tree → Bool
heads_meet path s t = tops_meet (is_whole path) (top (head s)) (top (head t))
