-- Laws of the search.
use Rattle.std.specs.Prelude.{ℕ, ◌≡◌, List, true}
use Rattle.leo_q0.specs.Terms.{SimpleType}
use Rattle.leo_unify.specs.Pairs.{Pair}
use Rattle.leo_unify.specs.Search.{State, Solution, Finds, start}
use Rattle.leo_unify.specs.Origins.{Origin, AreTypesFrom, ArePairsFrom, AreSolutionsFrom}

-- a state has one list of first solutions
abbrev pub SolutionsAreUnique : Type 0
SolutionsAreUnique = (n : ℕ) (s : State) (xs ys : List Solution) → Finds n s xs → Finds n s ys → xs ≡ ys

-- each base type in the solutions is `$o` or stands in the pairs or in the types of the variables, and each symbol stands in the pairs:
-- a test that says yes to all of these says yes to all in the solutions
abbrev pub SolutionsAreFromPairs : Type 0
SolutionsAreFromPairs = (n : ℕ) (variables : List SimpleType) (pairs : List Pair) (depth : ℕ) (solutions : List Solution) → Finds n (start variables pairs depth) solutions → (o : Origin) → o.has_base 0 ≡ true → AreTypesFrom o variables → ArePairsFrom o pairs → AreSolutionsFrom o solutions
