-- The terms that a variable at the head of a formula may stand for, by their outermost logical constant.
use Rattle.std.specs.Prelude.{ℕ, ◌+◌, nat_eq, Bool, true, false, if◌then◌else◌, List, [], ◌∷◌, length, map}
use Rattle.leo_q0.specs.Terms.{SimpleType, base, arrow, same_type}
use Rattle.leo_terms.specs.Tree.{Tree, variable, bound, app, lam, truth_type}
use Rattle.leo_clause.specs.Arranging.{firsts}
use Rattle.leo_kernel.specs.Shapes.{truth_tree, not_tree, or_tree, eq_tree}

-- the types of the arguments that functions of this type take, one after the other
abbrev pub argument_types : SimpleType → List SimpleType
argument_types (base n) = []
argument_types (arrow a b) = a ∷ argument_types b

-- the type of functions that take arguments of these types, and give a thing of type b then
abbrev pub arrows : List SimpleType → SimpleType → SimpleType
arrows [] b = b
arrows (a ∷ types) b = arrow a (arrows types b)

-- a term below a lambda for each of these types, the first one outermost
abbrev pub under_lambdas : List SimpleType → Tree → Tree
under_lambdas [] t = t
under_lambdas (a ∷ types) t = lam a (under_lambdas types t)

-- a function of the indices of these lambdas
abbrev pub of_indices : List SimpleType → Tree → Tree
of_indices [] f = f
of_indices (a ∷ types) f = of_indices types (app f (bound (length types) a))

-- a fresh variable as such a function, that gives a thing of type b
abbrev pub fresh_function : ℕ → List SimpleType → SimpleType → Tree
fresh_function n types b = of_indices types (variable n (arrows types b))

-- the types of fresh variables, and what stands below the lambdas
pub record Binding : Type 0 where
  pub fresh : List SimpleType
  pub body : Tree

-- T or F
abbrev pub truth_binding : Bool → Binding
truth_binding v = record { fresh = []; body = truth_tree v }

-- `~ (H x)`; fresh variables are numbered from n on
abbrev pub negation_binding : ℕ → List SimpleType → Binding
negation_binding n types = record { fresh = arrows types truth_type ∷ []; body = not_tree (fresh_function n types truth_type) }

-- `(H x) | (K x)`
abbrev pub disjunction_binding : ℕ → List SimpleType → Binding
disjunction_binding n types = record {
  fresh = arrows types truth_type ∷ arrows types truth_type ∷ [];
  body = or_tree (fresh_function n types truth_type) (fresh_function (n + 1) types truth_type);
}

-- `(H x) = (K x)`, where these are things of type b
abbrev pub equation_binding : ℕ → List SimpleType → SimpleType → Binding
equation_binding n types b = record {
  fresh = arrows types b ∷ arrows types b ∷ [];
  body = eq_tree b (fresh_function n types b) (fresh_function (n + 1) types b);
}

-- all of them, in order; an equation comes for each different type among the arguments
abbrev pub bindings : ℕ → List SimpleType → List Binding
bindings n types =
    truth_binding true ∷ truth_binding false ∷ negation_binding n types ∷ disjunction_binding n types ∷ map (equation_binding n types) (firsts same_type [] types)

-- the variables of these types, numbered from m on, with the term t in the place of the variable n
abbrev pub given_for : ℕ → Tree → ℕ → List SimpleType → List Tree
given_for n t m [] = []
given_for n t m (a ∷ types) = (if nat_eq m n then t else variable m a) ∷ given_for n t (m + 1) types
