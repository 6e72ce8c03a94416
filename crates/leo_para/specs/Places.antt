-- The places in a term at which it may be rewritten: the whole, and the arguments of its spine with their own places; none
-- is inside a lambda.
use Rattle.std.specs.Prelude.{ℕ, List, [], ◌∷◌, ◌++◌, map}
use Rattle.leo_terms.specs.Tree.{Tree, variable, bound, symbol, app, lam, logic, absent}

-- a path by numbers of children, and the term to which it leads
pub record Place : Type 0 where
  pub path : List ℕ
  pub term : Tree

-- the place in a term of which the term with the place is the child with this number
abbrev pub below_child : ℕ → Place → Place
below_child n p = record { path = n ∷ p.path; term = p.term }

-- the whole of a term that stands there
abbrev pub whole : Tree → List Place
whole absent = []
whole (variable n a) = record { path = []; term = variable n a } ∷ []
whole (bound i a) = record { path = []; term = bound i a } ∷ []
whole (symbol s a) = record { path = []; term = symbol s a } ∷ []
whole (app f x) = record { path = []; term = app f x } ∷ []
whole (lam a t) = record { path = []; term = lam a t } ∷ []
whole (logic c x y) = record { path = []; term = logic c x y } ∷ []

-- the places in the arguments of a term's spine, from left to right: those of a logical constant at the head come first
abbrev pub argument_places : Tree → List Place
argument_places (app f x) = map (below_child 0) (argument_places f) ++ map (below_child 1) (whole x ++ argument_places x)
argument_places (logic c x y) = map (below_child 0) (whole x ++ argument_places x) ++ map (below_child 1) (whole y ++ argument_places y)
argument_places (variable n a) = []
argument_places (bound i a) = []
argument_places (symbol s a) = []
argument_places (lam a t) = []
argument_places absent = []

abbrev pub places : Tree → List Place
places t = whole t ++ argument_places t
