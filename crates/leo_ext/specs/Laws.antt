-- What is so of the members of a clause.
use Rattle.std.specs.Prelude.{ℕ, ◌≡◌, ◌<◌, ◌≤◌, true, List, [], ◌∷◌, length, slice_get, Some}
use Rattle.leo_terms.specs.Typing.{IsWellTyped}
use Rattle.leo_clause.specs.Choices.{Choice}
use Rattle.leo_clause.specs.Trees.{Literal, ClauseTree}
use Rattle.leo_clause.specs.Typed.{IsTyped}
use Rattle.leo_kernel.specs.Acceptance.{AreAcceptedAfter}
use Rattle.leo_kernel.specs.Steps.{StepRule}
use Rattle.leo_clausify.specs.Leaves.{first_lines, last_clause}
use Rattle.leo_unify.specs.Origins.{Origin, IsTermFrom}
use Rattle.leo_conclude.specs.Leaving.{AreConstraints, AreNumbersOf}
use Rattle.leo_conclude.specs.Origins.{AreLinesFrom, IsClauseFrom}
use Rattle.leo_ext.specs.Members.{Member}
use Rattle.leo_ext.specs.Unary.{AreUnary}

-- both sides of each literal are well typed, as all terms of a bank are
abbrev pub AreWellTyped : List Literal → Type 0
AreWellTyped [] = Unit {0}
AreWellTyped (l ∷ ls) = IsWellTyped l.left × IsWellTyped l.right × AreWellTyped ls

-- the lines of each member are accepted, from no hypotheses, behind the lines that abbreviate the choice symbols and the clause,
-- which may come by any rule
abbrev pub UnaryMembersAreAccepted : Type 0
UnaryMembersAreAccepted = (known : ℕ) (choices later : List Choice) (c : ClauseTree) (rule : StepRule) (members : List Member) → IsTyped c → AreWellTyped c.literals → AreUnary known choices c later members
    → (n : ℕ) (m : Member) → slice_get members n ≡ Some m → AreAcceptedAfter (first_lines later c rule) m.lines

-- each member has at least one line
abbrev pub UnaryMembersHaveLines : Type 0
UnaryMembersHaveLines = (known : ℕ) (choices : List Choice) (c : ClauseTree) (later : List Choice) (members : List Member) → AreUnary known choices c later members → (n : ℕ) (m : Member) → slice_get members n ≡ Some m → 0 < length m.lines

-- the literals of its last line's clause that are to be solved are inequations, and their numbers are numbers of literals
abbrev pub UnaryPairsAreNegative : Type 0
UnaryPairsAreNegative = (known : ℕ) (choices : List Choice) (c : ClauseTree) (later : List Choice) (members : List Member) → AreUnary known choices c later members → (n : ℕ) (m : Member) → slice_get members n ≡ Some m
    → AreConstraints (last_clause c m.lines).literals m.pairs × AreNumbersOf (last_clause c m.lines).literals m.pairs

-- the choice symbols of a list are among these
abbrev pub AreNamed : Origin → List Choice → Type 0
AreNamed o [] = Unit {0}
AreNamed o (k ∷ choices) = (o.has_symbol k.number ≡ true) × AreNamed o choices

-- each base type in the lines of a member is `$o` or stands in the clause, and each symbol in them stands there or is a choice
-- symbol of the list as it is left: a test that says yes to all of these says yes to all in the lines
abbrev pub UnaryMembersAreFromClause : Type 0
UnaryMembersAreFromClause = (known : ℕ) (choices : List Choice) (c : ClauseTree) (later : List Choice) (members : List Member) → AreUnary known choices c later members → (o : Origin) → o.has_base 0 ≡ true → IsClauseFrom o c → AreNamed o later → (n : ℕ) (m : Member) → slice_get members n ≡ Some m
    → AreLinesFrom o m.lines

-- each base type in the term of a choice symbol that is new is `$o` or stands in the clause, and each symbol in it stands there
abbrev pub UnaryChoicesAreFromClause : Type 0
UnaryChoicesAreFromClause = (known : ℕ) (choices : List Choice) (c : ClauseTree) (later : List Choice) (members : List Member) → AreUnary known choices c later members → (o : Origin) → o.has_base 0 ≡ true → IsClauseFrom o c → (n : ℕ) (k : Choice) → length choices ≤ n → slice_get later n ≡ Some k
    → IsTermFrom o k.term
