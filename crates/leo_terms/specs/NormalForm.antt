-- The beta-normal, eta-long form of a typed term, by putting normal terms into normal terms and reducing at once.
use Rattle.std.specs.Prelude.{ℕ, zero, suc, ◌+◌}
use Rattle.leo_q0.specs.Terms.{SimpleType, base, arrow}
use Rattle.leo_terms.specs.Tree.{Tree, variable, bound, symbol, app, lam, logic, absent, type_of, lifted, bound_opened, opened}

-- how many base types and arrows a type is made of
abbrev pub type_size : SimpleType → ℕ
type_size (base n) = 1
type_size (arrow a b) = suc (type_size a + type_size b)

-- a function with its argument; `contract x t` stands for a beta step of a lambda with the body t
abbrev pub applied : (Tree → Tree → Tree) → Tree → Tree → Tree
applied contract (lam a t) x = contract x t
applied contract (variable n a) x = app (variable n a) x
applied contract (bound i a) x = app (bound i a) x
applied contract (symbol s a) x = app (symbol s a) x
applied contract (app f y) x = app (app f y) x
applied contract (logic c y z) x = app (logic c y z) x
applied contract absent x = app absent x

-- the normal term t with the normal term s put in for the index k; where that makes a head a lambda, `contract` reduces
abbrev pub put_by : (Tree → Tree → Tree) → ℕ → Tree → Tree → Tree
put_by contract k s (variable n a) = variable n a
put_by contract k s (bound i a) = bound_opened k s i a
put_by contract k s (symbol n a) = symbol n a
put_by contract k s (app f x) = applied contract (put_by contract k s f) (put_by contract k s x)
put_by contract k s (lam a t) = lam a (put_by contract (k + 1) s t)
put_by contract k s (logic c x y) = logic c (put_by contract k s x) (put_by contract k s y)
put_by contract k s absent = absent

-- the same, where at most `depth` reductions follow from one another: each binds a variable of a smaller type than the one before
abbrev pub put_within : ℕ → ℕ → Tree → Tree → Tree
put_within zero k s t = opened k s t
put_within (suc depth) k s t = put_by (put_within depth 0) k s t

-- the beta step of normal terms: the normal term x put in for the outermost index of the normal term t
abbrev pub contracted : Tree → Tree → Tree
contracted x t = put_within (type_size (type_of x)) 0 x t

-- the eta-long form of a head of this type, whose arguments are normal
abbrev pub expanded : SimpleType → Tree → Tree
expanded (base n) t = t
expanded (arrow a b) t = lam a (expanded b (app (lifted 0 1 t) (expanded a (bound 0 a))))

abbrev pub eta_long : Tree → Tree
eta_long t = expanded (type_of t) t

-- the beta-normal, eta-long form
abbrev pub normal_form : Tree → Tree
normal_form (variable n a) = eta_long (variable n a)
normal_form (bound i a) = eta_long (bound i a)
normal_form (symbol s a) = eta_long (symbol s a)
normal_form (app f x) = applied contracted (normal_form f) (normal_form x)
normal_form (lam a t) = lam a (normal_form t)
normal_form (logic c x y) = eta_long (logic c (normal_form x) (normal_form y))
normal_form absent = absent
