-- The tops of terms, as the calls that look at them say.
use Rattle.std.specs.Prelude.{Bool, true, false, Option, Some, None}
use Rattle.leo_q0.specs.Terms.{SimpleType}
use Rattle.leo_terms.specs.Tree.{Tree, variable, bound, symbol, app, lam, logic, absent, Connective, truth, falsity, negation, disjunction, conjunction, implication, equality, universal, existential, choice}

abbrev pub application_of : Tree → Option (Tree × Tree)
application_of (app f x) = Some (f, x)
application_of (variable n a) = None
application_of (bound i a) = None
application_of (symbol s a) = None
application_of (lam a t) = None
application_of (logic c x y) = None
application_of absent = None

abbrev pub choice_by : Connective → Tree → Option (SimpleType × Tree)
choice_by (choice a) p = Some (a, p)
choice_by truth p = None
choice_by falsity p = None
choice_by negation p = None
choice_by disjunction p = None
choice_by conjunction p = None
choice_by implication p = None
choice_by (equality a) p = None
choice_by (universal a) p = None
choice_by (existential a) p = None

abbrev pub choice_of : Tree → Option (SimpleType × Tree)
choice_of (logic c p x) = choice_by c p
choice_of (variable n a) = None
choice_of (bound i a) = None
choice_of (symbol s a) = None
choice_of (app f x) = None
choice_of (lam a t) = None
choice_of absent = None

-- a symbol or an index
abbrev pub is_atom : Tree → Bool
is_atom (bound i a) = true
is_atom (symbol s a) = true
is_atom (variable n a) = false
is_atom (app f x) = false
is_atom (lam a t) = false
is_atom (logic c x y) = false
is_atom absent = false

abbrev pub is_symbol : Tree → Bool
is_symbol (symbol s a) = true
is_symbol (bound i a) = false
is_symbol (variable n a) = false
is_symbol (app f x) = false
is_symbol (lam a t) = false
is_symbol (logic c x y) = false
is_symbol absent = false
