-- What is so of the leaves and of the choice symbols of every split, by the tests of base types and symbols.
use Rattle.std.specs.Prelude.{ℕ, ◌≡◌, ◌<◌, ◌≤◌, true, List, length, slice_get, Some}
use Rattle.leo_clause.specs.Choices.{Choice}
use Rattle.leo_clause.specs.Trees.{ClauseTree}
use Rattle.leo_clausify.specs.Origins.{Origin, IsTermFrom, IsClauseFrom, AreClausesFrom, IsChoiceFrom, AreChoicesFrom}
use Rattle.leo_clausify.specs.Splitting.{Splits}

-- each base type in the term of a new item is `$o` or stands in the clause or in an earlier item, and each symbol stands there
abbrev pub SplitChoicesAreFrom : Type 0
SplitChoicesAreFrom = (known room : ℕ) (before later : List Choice) (c : ClauseTree) (leaves : List ClauseTree) → Splits known room before c later leaves
    → (n : ℕ) (k : Choice) → length before ≤ n → slice_get later n ≡ Some k
    → (o : Origin) → o.has_base 0 ≡ true → IsClauseFrom o c → ((m : ℕ) (j : Choice) → m < n → slice_get later m ≡ Some j → IsChoiceFrom o j) → IsTermFrom o k.term

-- each base type in a leaf is `$o` or stands in the clause or in an item, and each symbol stands there
abbrev pub SplitLeavesAreFrom : Type 0
SplitLeavesAreFrom = (known room : ℕ) (before later : List Choice) (c : ClauseTree) (leaves : List ClauseTree) → Splits known room before c later leaves
    → (o : Origin) → o.has_base 0 ≡ true → IsClauseFrom o c → AreChoicesFrom o later → AreClausesFrom o leaves
