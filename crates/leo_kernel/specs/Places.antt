-- Places in a term: a path is a list of child numbers, and never enters a lambda.
use Rattle.std.specs.Prelude.{ℕ, zero, suc, ◌+◌, List, [], ◌∷◌, Option, Some, None}
use Rattle.std.specs.Option.{option_and_then}
use Rattle.leo_terms.specs.Tree.{Tree, variable, bound, symbol, app, lam, logic, absent}
use Rattle.leo_clause.specs.declared.record.Side.{Side}
use Rattle.leo_clause.specs.declared.record.Side.TheVariants.{Left, Right}
use Rattle.leo_clause.specs.Trees.{Literal}

-- an argument, if one stands there
abbrev pub present : Tree → Option Tree
present absent = None
present (variable n a) = Some (variable n a)
present (bound i a) = Some (bound i a)
present (symbol n a) = Some (symbol n a)
present (app f x) = Some (app f x)
present (lam a t) = Some (lam a t)
present (logic c x y) = Some (logic c x y)

-- the child with this number: function and argument of an application, arguments of a logical constant
abbrev pub child : ℕ → Tree → Option Tree
child zero (app f x) = Some f
child (suc zero) (app f x) = Some x
child (suc (suc n)) (app f x) = None
child zero (logic c x y) = present x
child (suc zero) (logic c x y) = present y
child (suc (suc n)) (logic c x y) = None
child n (variable m a) = None
child n (bound i a) = None
child n (symbol m a) = None
child n (lam a t) = None
child n absent = None

-- what stands at the path
abbrev pub subterm : List ℕ → Tree → Option Tree
subterm [] t = Some t
subterm (n ∷ path) t = option_and_then (subterm path) (child n t)

-- the term whose child with this number is changed
abbrev pub with_child : ℕ → (Tree → Tree) → Tree → Tree
with_child zero change (app f x) = app (change f) x
with_child (suc zero) change (app f x) = app f (change x)
with_child (suc (suc n)) change (app f x) = app f x
with_child zero change (logic c x y) = logic c (change x) y
with_child (suc zero) change (logic c x y) = logic c x (change y)
with_child (suc (suc n)) change (logic c x y) = logic c x y
with_child n change (variable m a) = variable m a
with_child n change (bound i a) = bound i a
with_child n change (symbol m a) = symbol m a
with_child n change (lam a t) = lam a t
with_child n change absent = absent

-- the term with r in the place of what stands at the path
abbrev pub replaced_at : List ℕ → Tree → Tree → Tree
replaced_at [] r t = r
replaced_at (n ∷ path) r t = with_child n (replaced_at path r) t

-- the literal with r at the path in its side
abbrev pub replaced_in : Side → List ℕ → Tree → Literal → Literal
replaced_in Left path r l = record { positive = l.positive; left = replaced_at path r l.left; right = l.right }
replaced_in Right path r l = record { positive = l.positive; left = l.left; right = replaced_at path r l.right }

-- the term with n added to the numbers of its variables
abbrev pub shifted : ℕ → Tree → Tree
shifted n (variable m a) = variable (n + m) a
shifted n (bound i a) = bound i a
shifted n (symbol m a) = symbol m a
shifted n (app f x) = app (shifted n f) (shifted n x)
shifted n (lam a t) = lam a (shifted n t)
shifted n (logic c x y) = logic c (shifted n x) (shifted n y)
shifted n absent = absent

abbrev pub shifted_literal : ℕ → Literal → Literal
shifted_literal n l = record { positive = l.positive; left = shifted n l.left; right = shifted n l.right }
