-- Variables with which a closed term has a given type and normal form. No public contract speaks of it.
use Rattle.std.specs.Prelude.{ℕ, ◌≡◌, ◌-◌, nat_eq, if◌then◌else◌, List, [], ◌∷◌}
use Rattle.leo_q0.specs.Terms.{SimpleType}
use Rattle.leo_terms.specs.Tree.{Tree, variable, bound, symbol, app, lam, logic, absent, type_of}
use Rattle.leo_terms.specs.Typing.{IsWellTyped}
use Rattle.leo_terms.specs.NormalForm.{normal_form}
use Rattle.leo_kernel.specs.Choosing.{applied_to, AreVariablesOf}

-- the term with other numbers for its variables
abbrev pub renamed : (ℕ → ℕ) → Tree → Tree
renamed r (variable n a) = variable (r n) a
renamed r (bound i a) = bound i a
renamed r (symbol n a) = symbol n a
renamed r (app f x) = app (renamed r f) (renamed r x)
renamed r (lam a t) = lam a (renamed r t)
renamed r (logic c x y) = logic c (renamed r x) (renamed r y)
renamed r absent = absent

-- a variable of each of these types, numbered from `top` downwards
abbrev pub descending : ℕ → List SimpleType → List Tree
descending top [] = []
descending top (a ∷ types) = variable top a ∷ descending (top - 1) types

-- these numbers for the variables from `top` downwards
abbrev pub renaming : ℕ → List ℕ → ℕ → ℕ
renaming top [] n = n
renaming top (m ∷ ms) n = if nat_eq n top then m else renaming (top - 1) ms n

-- with these variables as its arguments the term has this type and this normal form
pub record HasForm (variables : List SimpleType) (a : SimpleType) (form t : Tree) (xs : List Tree) : Type 0 where
  pub variables_of : AreVariablesOf variables xs
  pub typed : IsWellTyped (applied_to t xs)
  pub type_is : type_of (applied_to t xs) ≡ a
  pub same_form : normal_form (applied_to t xs) ≡ form

-- some variables make it so
pub record MayHaveForm (variables : List SimpleType) (a : SimpleType) (form t : Tree) : Type 0 where
  pub arguments : List Tree
  pub has_form : HasForm variables a form t arguments
