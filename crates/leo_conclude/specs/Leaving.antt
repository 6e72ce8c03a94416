-- What the calls that replace a constraint say to one another. No public contract speaks of it, but for the constraints.
use Rattle.std.specs.Prelude.{ℕ, ◌≡◌, ◌+◌, ◌<◌, nat_eq, true, false, List, [], ◌∷◌, ◌++◌, length, map, slice_get, Some, unwrap_or}
use Rattle.std.specs.List.{list_any}
use Rattle.leo_terms.specs.Contents.{Contents, tree_at}
use Rattle.leo_terms.specs.Tree.{Tree, app}
use Rattle.leo_terms.specs.Typing.{IsWellTyped}
use Rattle.leo_clause.specs.declared.clause.Clause.{Clause}
use Rattle.leo_clause.specs.Trees.{Literal, clause_at}
use Rattle.leo_kernel.specs.Shapes.{unequal}
use Rattle.leo_unify.specs.declared.pairs.Application.{Application}
use Rattle.leo_unify.specs.Pairs.{Pair}
use Rattle.leo_unify.specs.Residues.{left_of_arguments}
use Rattle.leo_conclude.specs.declared.derived.Derived.{Derived}
use Rattle.leo_conclude.specs.declared.relieving.Relieved.{Relieved}
use Rattle.leo_conclude.specs.Conclusions.{unequal_pair}
use Rattle.leo_conclude.specs.Deriving.{IsChanged}

-- the literal stands at this place, between others
pub record Stands (literals : List Literal) (at : ℕ) (l : Literal) : Type 0 where
  pub front : List Literal
  pub back : List Literal
  pub is : literals ≡ front ++ (l ∷ back)
  pub count : length front ≡ at

-- the inequation of two terms stands at this place
abbrev pub HasUnequal : Contents → Clause → ℕ → ℕ → ℕ → Type 0
HasUnequal c k at l r = Stands (clause_at c k).literals at (unequal (tree_at c l) (tree_at c r))

-- the inequation of two terms is replaced by those of some pairs; the result ends behind them
pub record Leaves (c : Contents) (d : Derived) (at l r : ℕ) (pairs : List Pair) (result : Relieved) : Type 0 where
  pub leaves : (front back : List Literal) → (clause_at c d.clause).literals ≡ front ++ (unequal (tree_at c l) (tree_at c r) ∷ back) → length front ≡ at → IsChanged c d result.derived front (map unequal_pair pairs) back
  pub end : result.end ≡ at + length pairs

-- the same for two applications
abbrev pub application_tree : Contents → Application → Tree
application_tree c a = app (tree_at c a.function) (tree_at c a.argument)

-- an application of terms of the bank, which is typed
pub record IsApplicationIn (c : Contents) (a : Application) : Type 0 where
  pub function_within : a.function < length c.terms
  pub argument_within : a.argument < length c.terms
  pub typed : IsWellTyped (application_tree c a)

abbrev pub HasUnequalApplications : Contents → Clause → ℕ → Application → Application → Type 0
HasUnequalApplications c k at a b = Stands (clause_at c k).literals at (unequal (application_tree c a) (application_tree c b))

-- what is left of the arguments, where they may take the place of the terms
abbrev pub parts_left : Tree → Tree → List Pair
parts_left s t = unwrap_or (left_of_arguments s t) []

pub record LeavesApplications (c : Contents) (d : Derived) (at : ℕ) (a b : Application) (result : Relieved) : Type 0 where
  pub leaves : (front back : List Literal) → (clause_at c d.clause).literals ≡ front ++ (unequal (application_tree c a) (application_tree c b) ∷ back) → length front ≡ at → IsChanged c d result.derived front (map unequal_pair (parts_left (application_tree c a) (application_tree c b))) back
  pub end : result.end ≡ at + length (parts_left (application_tree c a) (application_tree c b))

-- each literal with one of these numbers is an inequation
abbrev pub AreConstraints : List Literal → List ℕ → Type 0
AreConstraints literals constraints = (n : ℕ) (l : Literal) → slice_get literals n ≡ Some l → list_any (nat_eq n) constraints ≡ true → l.positive ≡ false

-- each of these numbers is that of an item
abbrev pub AreNumbersOf : {X : Type 0} → List X → List ℕ → Type 0
AreNumbersOf items [] = Unit {0}
AreNumbersOf items (n ∷ ns) = (n < length items) × AreNumbersOf items ns
