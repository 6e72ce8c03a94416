-- What the calls for paramodulation say to one another: the variables that a clause is moved to, and a term with another child.
-- No public contract speaks of it.
use Rattle.std.specs.Prelude.{ℕ, suc, List, [], ◌∷◌, ◌++◌, take, drop}
use Rattle.leo_q0.specs.Terms.{SimpleType}
use Rattle.leo_terms.specs.Tree.{Tree, variable}
use Rattle.leo_clause.specs.declared.clause.Lit.{Lit}
use Rattle.leo_kernel.specs.Places.{with_child}

-- a variable of each of these types, numbered from `first` on
abbrev pub variables_from : ℕ → List SimpleType → List Tree
variables_from first [] = []
variables_from first (a ∷ types) = variable first a ∷ variables_from (suc first) types

-- the term with u as its child of this number
abbrev pub put_child : ℕ → Tree → Tree → Tree
put_child n u s = with_child n (λ t. u) s

-- a list without an item, behind it another list with a new item in the place of one, and a last item
abbrev pub joined : List Lit → ℕ → List Lit → ℕ → Lit → Lit → List Lit
joined source i target j new last =
    (take i source ++ ([] ++ drop (suc i) source)) ++ ((take j target ++ ((new ∷ []) ++ drop (suc j) target)) ++ last ∷ [])
