-- Clauses on the way to their leaves. No public contract speaks of it.
use Rattle.std.specs.Prelude.{ℕ, ◌≡◌, List, map, slice_get, Some}
use Rattle.leo_terms.specs.Contents.{Contents}
use Rattle.leo_clause.specs.Choices.{Choice}
use Rattle.leo_clause.specs.Trees.{ClauseTree, clause_at}
use Rattle.leo_clause.specs.Typed.{IsTypedIn}
use Rattle.leo_clausify.specs.declared.branch.Branch.{Branch}
use Rattle.leo_clausify.specs.Moves.{AreStepsIn, IsDescent, step_at}
use Rattle.leo_clausify.specs.Splitting.{AreNormal}

-- the clause is typed and in normal form, and the numbers of the steps are numbers of the bank
pub record IsBranch (c : Contents) (b : Branch) : Type 0 where
  pub typed : IsTypedIn c b.clause
  pub normal : AreNormal (clause_at c b.clause).literals
  pub steps : AreStepsIn c b.steps

-- the steps lead from `start` to the clause
abbrev pub Leads : Contents → List Choice → ClauseTree → Branch → Type 0
Leads c choices start b = IsDescent choices start (map (step_at c) b.steps) (clause_at c b.clause)

-- every place of the first list has its item in the second
abbrev pub Precedes : List Choice → List Choice → Type 0
Precedes choices later = (n : ℕ) (k : Choice) → slice_get choices n ≡ Some k → slice_get later n ≡ Some k

-- the second branch has the clause `tree`, to which the steps of the first and some more lead
pub record IsExtended (c d : Contents) (later : List Choice) (b r : Branch) (tree : ClauseTree) : Type 0 where
  pub branch : IsBranch d r
  pub reads : clause_at d r.clause ≡ tree
  pub leads : (choices : List Choice) (start : ClauseTree) → Precedes choices later → Leads c choices start b → Leads d later start r
