-- The conclusions of a member: its clause, or the instances of it that solve its constraints.
use Rattle.std.specs.Prelude.{ℕ, suc, nat_eq, if◌then◌else◌, List, [], ◌∷◌, ◌++◌, map, slice_get, Option, Some, None}
use Rattle.std.specs.List.{list_any, flat_map}
use Rattle.leo_clause.specs.Renaming.{substituted_literal}
use Rattle.leo_clause.specs.Trees.{Literal, ClauseTree}
use Rattle.leo_kernel.specs.Shapes.{unequal}
use Rattle.leo_clausify.specs.Splitting.{normal_literal}
use Rattle.leo_unify.specs.Pairs.{Pair}
use Rattle.leo_unify.specs.Residues.{residue}
use Rattle.leo_unify.specs.Search.{Solution, AreSolutions}

-- the clause in normal form
abbrev pub normal_clause : ClauseTree → ClauseTree
normal_clause c = record { variables = c.variables; literals = map normal_literal c.literals }

-- the instance of a clause under a solution, in normal form
abbrev pub instance : ClauseTree → Solution → ClauseTree
instance c s = record { variables = s.variables; literals = map normal_literal (map (substituted_literal s.terms) c.literals) }

-- the literals that say that the sides of pairs differ
abbrev pub unequal_pair : Pair → Literal
unequal_pair p = unequal p.left p.right

-- what is left of a constraint
abbrev pub rest_of : Literal → List Literal
rest_of l = map unequal_pair (residue l.left l.right)

-- in the place of each constraint what is left of it; the first of the literals has the number n
abbrev pub relieved : List ℕ → ℕ → List Literal → List Literal
relieved constraints n [] = []
relieved constraints n (l ∷ ls) = (if list_any (nat_eq n) constraints then rest_of l else l ∷ []) ++ relieved constraints (suc n) ls

-- the conclusion for a solution
abbrev pub conclusion : ClauseTree → List ℕ → Solution → ClauseTree
conclusion c constraints s = record { variables = s.variables; literals = relieved constraints 0 (instance c s).literals }

-- the pairs that are to be solved: the sides of the literals with these numbers
abbrev pub sides_of : Option Literal → List Pair
sides_of None = []
sides_of (Some l) = (record { left = l.left; right = l.right }) ∷ []

abbrev pub constraint_pairs : ClauseTree → List ℕ → List Pair
constraint_pairs c constraints = flat_map (λ n. sides_of (slice_get c.literals n)) constraints

-- these are the conclusions, one for each solution, in their order; where there is no constraint, the clause is the only one
pub data AreConclusions (c : ClauseTree) (depth : ℕ) : List ℕ → List ClauseTree → Type 0 where
  unconstrained : AreConclusions c depth [] (normal_clause c ∷ [])
  solved : (n : ℕ) (constraints : List ℕ) (solutions : List Solution) → AreSolutions c.variables (constraint_pairs c (n ∷ constraints)) depth solutions → AreConclusions c depth (n ∷ constraints) (map (conclusion c (n ∷ constraints)) solutions)
