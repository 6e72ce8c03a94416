-- The solutions of pairs, in the order in which they are found.
use Rattle.std.specs.Prelude.{ℕ, zero, suc, ◌≡◌, ◌-◌, nat_eq, if◌then◌else◌, List, [], ◌∷◌, ◌++◌, length, map}
use Rattle.leo_q0.specs.Terms.{SimpleType}
use Rattle.leo_terms.specs.Tree.{Tree, variable, substituted}
use Rattle.leo_terms.specs.NormalForm.{normal_form}
use Rattle.leo_unify.specs.Pairs.{Pair}
use Rattle.leo_unify.specs.Acts.{Binding, Act, stay, replace, bind, refuse, branch, act}

-- the types of the variables, those that were handed in and then the fresh ones in the order in which they were made; the terms of
-- the variables that were handed in; the pairs; and how many branches may follow from one another
pub record State : Type 0 where
  pub variables : List SimpleType
  pub terms : List Tree
  pub pairs : List Pair
  pub depth : ℕ

-- the terms of the variables that were handed in, over variables of these types
pub record Solution : Type 0 where
  pub variables : List SimpleType
  pub terms : List Tree

-- ---- binding a variable

-- what stands for each of the variables, numbered from `first` on, once one of them is bound
abbrev pub given_from : ℕ → Tree → ℕ → List SimpleType → List Tree
given_from number t first [] = []
given_from number t first (a ∷ types) =
    (if nat_eq first number then t else variable first a) ∷ given_from number t (suc first) types

-- a term with these put in for its variables, in normal form
abbrev pub put : List Tree → Tree → Tree
put given t = normal_form (substituted given 0 t)

abbrev pub put_pair : List Tree → Pair → Pair
put_pair given p = record { left = put given p.left; right = put given p.right }

abbrev pub given_by : Binding → List SimpleType → List Tree
given_by b variables = given_from b.number b.term 0 variables

-- the binding is put into all pairs and all terms so far
abbrev pub with_binding : State → ℕ → Binding → State
with_binding s depth b =
    let variables = s.variables ++ b.fresh in
    record {
      variables = variables;
      terms = map (put (given_by b variables)) s.terms;
      pairs = map (put_pair (given_by b variables)) s.pairs;
      depth = depth;
    }

abbrev pub with_pairs : State → List Pair → State
with_pairs s pairs = record { variables = s.variables; terms = s.terms; pairs = pairs; depth = s.depth }

-- ---- one step

-- what a state comes to
pub data Step : Type 0 where
  -- it is a solution: no case applies to any pair
  rests : Step
  -- it has no solution
  fails : Step
  -- its solutions are those of another
  becomes : State → Step
  -- its solutions are those of others, one after the other
  branches : List State → Step

-- what is done with a pair is done in the state with these pairs before and behind it; `other` is what the state comes to by the pairs
-- behind it
abbrev pub done : State → Act → List Pair → List Pair → Step → Step
done s stay before behind other = other
done s (replace new) before behind other = becomes (with_pairs s (before ++ (new ++ behind)))
done s (bind b) before behind other = becomes (with_binding s s.depth b)
done s refuse before behind other = fails
done s (branch bs) before behind other = branches (map (with_binding s (s.depth - 1)) bs)

-- the first pair to which a case applies is worked
abbrev pub step_from : State → List Pair → List Pair → Step
step_from s before [] = rests
step_from s before (p ∷ behind) =
    done s (act (length s.variables) s.depth p.left p.right) before behind (step_from s (before ++ p ∷ []) behind)

abbrev pub step_of : State → Step
step_of s = step_from s [] s.pairs

-- ---- the search

abbrev pub solution_of : State → Solution
solution_of s = record { variables = s.variables; terms = s.terms }

mutual
  -- the first `wanted` solutions of a state, in the order in which they are found
  pub data Finds : ℕ → State → List Solution → Type 0 where
    enough : (s : State) → Finds zero s []
    found : (n : ℕ) (s : State) → step_of s ≡ rests → Finds (suc n) s (solution_of s ∷ [])
    none : (n : ℕ) (s : State) → step_of s ≡ fails → Finds n s []
    later : (n : ℕ) (s t : State) (xs : List Solution) → step_of s ≡ becomes t → Finds n t xs → Finds n s xs
    branched : (n : ℕ) (s : State) (ss : List State) (xs : List Solution) → step_of s ≡ branches ss → FindsAmong n ss xs → Finds n s xs

  -- the first `wanted` solutions of states, one after the other
  pub data FindsAmong : ℕ → List State → List Solution → Type 0 where
    at_end : (n : ℕ) → FindsAmong n [] []
    in_turn : (n : ℕ) (s : State) (ss : List State) (xs ys : List Solution) →
        Finds n s xs → FindsAmong (n - length xs) ss ys → FindsAmong n (s ∷ ss) (xs ++ ys)

-- ---- the whole

abbrev pub long_variables : ℕ → List SimpleType → List Tree
long_variables first [] = []
long_variables first (a ∷ types) = normal_form (variable first a) ∷ long_variables (suc first) types

-- at first each variable stands for itself, in eta-long form
abbrev pub start : List SimpleType → List Pair → ℕ → State
start variables pairs depth = record {
  variables = variables;
  terms = long_variables 0 variables;
  pairs = pairs;
  depth = depth;
}

-- the first 16 solutions of these pairs over variables of these types
abbrev pub AreSolutions : List SimpleType → List Pair → ℕ → List Solution → Type 0
AreSolutions variables pairs depth solutions = Finds 16 (start variables pairs depth) solutions
