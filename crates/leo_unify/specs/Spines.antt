-- The head of a term, and the arguments of its spine.
use Rattle.std.specs.Prelude.{Bool, true, false, not, List, [], ◌∷◌, ◌++◌}
use Rattle.leo_terms.specs.Tree.{Tree, variable, bound, symbol, app, lam, logic, absent}

-- the term below its leading lambdas
abbrev pub below_lambdas : Tree → Tree
below_lambdas (lam a t) = below_lambdas t
below_lambdas (variable n a) = variable n a
below_lambdas (bound i a) = bound i a
below_lambdas (symbol s a) = symbol s a
below_lambdas (app f x) = app f x
below_lambdas (logic c x y) = logic c x y
below_lambdas absent = absent

-- what is applied to arguments, one after the other; a logical constant stands there with its own arguments
abbrev pub applied_head : Tree → Tree
applied_head (app f x) = applied_head f
applied_head (variable n a) = variable n a
applied_head (bound i a) = bound i a
applied_head (symbol s a) = symbol s a
applied_head (lam a t) = lam a t
applied_head (logic c x y) = logic c x y
applied_head absent = absent

-- the head of a term
abbrev pub head : Tree → Tree
head t = applied_head (below_lambdas t)

-- an argument of a logical constant, if it takes one there
abbrev pub if_present : Tree → List Tree
if_present absent = []
if_present (variable n a) = variable n a ∷ []
if_present (bound i a) = bound i a ∷ []
if_present (symbol s a) = symbol s a ∷ []
if_present (app f x) = app f x ∷ []
if_present (lam a t) = lam a t ∷ []
if_present (logic c x y) = logic c x y ∷ []

-- the arguments that the head is applied to, behind those of a logical constant that stands there
abbrev pub applied_arguments : Tree → List Tree
applied_arguments (app f x) = applied_arguments f ++ x ∷ []
applied_arguments (logic c x y) = if_present x ++ if_present y
applied_arguments (variable n a) = []
applied_arguments (bound i a) = []
applied_arguments (symbol s a) = []
applied_arguments (lam a t) = []
applied_arguments absent = []

-- the arguments of a term's spine, from left to right
abbrev pub arguments : Tree → List Tree
arguments t = applied_arguments (below_lambdas t)

abbrev pub is_variable : Tree → Bool
is_variable (variable n a) = true
is_variable (bound i a) = false
is_variable (symbol s a) = false
is_variable (app f x) = false
is_variable (lam a t) = false
is_variable (logic c x y) = false
is_variable absent = false

-- a variable stands at the head
abbrev pub is_flex : Tree → Bool
is_flex t = is_variable (head t)

abbrev pub is_rigid : Tree → Bool
is_rigid t = not (is_flex t)
