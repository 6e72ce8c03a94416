-- Several clauses that are split one after the other, and how far a split has come. No public contract speaks of it.
use Rattle.std.specs.Prelude.{ℕ, ◌≡◌, ◌-◌, ◌<◌, ◌≤◌, Bool, true, false, List, [], ◌∷◌, ◌++◌, length, map, reverse, slice_get, Some}
use Rattle.leo_terms.specs.Contents.{Contents}
use Rattle.leo_clause.specs.Choices.{Choice, choices_at}
use Rattle.leo_clause.specs.Trees.{Literal, ClauseTree, clause_at, literal_at}
use Rattle.leo_clause.specs.declared.clause.Lit.{Lit}
use Rattle.leo_clausify.specs.declared.agenda.Agenda.{Agenda}
use Rattle.leo_clausify.specs.declared.agenda.Progress.{Progress}
use Rattle.leo_clausify.specs.declared.agenda.Progress.TheVariants as progress
use Rattle.leo_clausify.specs.declared.branch.Branch.{Branch}
use Rattle.leo_clausify.specs.Branches.{IsBranch, Leads}
use Rattle.leo_clausify.specs.Forms.{no_form, forms_of}
use Rattle.leo_clausify.specs.Choosing.{AreInOrder}
use Rattle.leo_clausify.specs.Reducing.{is_form}
use Rattle.leo_clausify.specs.Splitting.{Splits, Overflows}

-- the leaves of several clauses, one after the other
pub data SplitsAll (known : ℕ) : ℕ → List Choice → List ClauseTree → List Choice → List ClauseTree → Type 0 where
  done : (room : ℕ) (choices : List Choice) → SplitsAll known room choices [] choices []
  next : (room : ℕ) (choices middle later : List Choice) (c : ClauseTree) (cs leaves more : List ClauseTree) → Splits known room choices c middle leaves → SplitsAll known (room - length leaves) middle cs later more → SplitsAll known room choices (c ∷ cs) later (leaves ++ more)

-- there are more leaves
pub data OverflowsAll (known : ℕ) : ℕ → List Choice → List ClauseTree → Type 0 where
  here : (room : ℕ) (choices : List Choice) (c : ClauseTree) (cs : List ClauseTree) → Overflows known room choices c → OverflowsAll known room choices (c ∷ cs)
  further : (room : ℕ) (choices middle : List Choice) (c : ClauseTree) (cs leaves : List ClauseTree) → Splits known room choices c middle leaves → OverflowsAll known (room - length leaves) middle cs → OverflowsAll known room choices (c ∷ cs)

-- the leaves of the clause c are those that are done, and then those of the clauses that are pending
pub record Remains (known room : ℕ) (before : List Choice) (c : ClauseTree) (choices : List Choice) (pending leaves : List ClauseTree) : Type 0 where
  pub few : length leaves ≤ room
  pub splits : (later : List Choice) (more : List ClauseTree) → SplitsAll known (room - length leaves) choices pending later more → Splits known room before c later (leaves ++ more)
  pub overflows : OverflowsAll known (room - length leaves) choices pending → Overflows known room before c

abbrev pub EachBranch : (Branch → Type 0) → List Branch → Type 0
EachBranch P [] = Unit {0}
EachBranch P (b ∷ bs) = P b × EachBranch P bs

-- the clauses of branches; of pending ones the last comes first
abbrev pub branch_clause : Contents → Branch → ClauseTree
branch_clause c b = clause_at c b.clause

abbrev pub clauses_of : Contents → List Branch → List ClauseTree
clauses_of c bs = map (branch_clause c) bs

-- all branches are in order, and so are the choice symbols
pub record IsAgenda (c : Contents) (a : Agenda) : Type 0 where
  pub pending : EachBranch (IsBranch c) a.pending
  pub finished : EachBranch (IsBranch c) a.finished
  pub in_order : AreInOrder c a.choices.items

-- steps lead from `start` to each branch, and at least one to those that are finished; what is left is known
pub record IsUnderWay (known : ℕ) (before : List Choice) (start : ClauseTree) (c : Contents) (a : Agenda) : Type 0 where
  pub agenda : IsAgenda c a
  pub pending : EachBranch (Leads c (choices_at c a.choices) start) a.pending
  pub finished : EachBranch (Leads c (choices_at c a.choices) start) a.finished
  pub some : EachBranch (λ b. 1 ≤ length b.steps) a.finished
  pub remains : Remains known 256 before start (choices_at c a.choices) (reverse (clauses_of c a.pending)) (clauses_of c a.finished)

-- what is under way stays so, or nothing is pending any more, or there are too many leaves
abbrev pub HasProgressed : Contents → Contents → Agenda → Agenda → Progress → Type 0
HasProgressed old new a b progress.More = (known : ℕ) (before : List Choice) (start : ClauseTree) → known ≤ length old.symbols → IsUnderWay known before start old a → IsUnderWay known before start new b
HasProgressed old new a b progress.Done = (new ≡ old) × (b ≡ a) × (a.pending ≡ [])
HasProgressed old new a b progress.Full = (known : ℕ) (before : List Choice) (start : ClauseTree) → IsUnderWay known before start old a → Overflows known 256 before start

-- the literal at this place can be reduced, and none before it
pub record IsFirstOf (c : Contents) (lits : List Lit) (at : ℕ) : Type 0 where
  pub lit : Lit
  pub stands : slice_get lits at ≡ Some lit
  pub reducible : is_form (forms_of (literal_at c lit)) ≡ true
  pub earlier : (j : ℕ) (k : Literal) → j < at → slice_get (map (literal_at c) lits) j ≡ Some k → forms_of k ≡ no_form

-- the agenda with a branch more that comes first
abbrev pub with_pending : Agenda → Branch → Agenda
with_pending a b = record a { pending = a.pending ++ b ∷ [] }

-- the same in one word, which calls hand on
pub record Progresses (old new : Contents) (a b : Agenda) (p : Progress) : Type 0 where
  pub progress : HasProgressed old new a b p

-- all clauses are split, or there are too many leaves
abbrev pub HasEnded : Contents → Contents → Agenda → Agenda → Bool → Type 0
HasEnded old new a b true = (b.pending ≡ []) × ((known : ℕ) (before : List Choice) (start : ClauseTree) → known ≤ length old.symbols → IsUnderWay known before start old a → IsUnderWay known before start new b)
HasEnded old new a b false = (known : ℕ) (before : List Choice) (start : ClauseTree) → known ≤ length old.symbols → IsUnderWay known before start old a → Overflows known 256 before start

pub record Ends (old new : Contents) (a b : Agenda) (fits : Bool) : Type 0 where
  pub ended : HasEnded old new a b fits

-- some split is under way
pub record IsRunning (c : Contents) (a : Agenda) : Type 0 where
  pub known : ℕ
  pub before : List Choice
  pub start : ClauseTree
  pub low : known ≤ length c.symbols
  pub under : IsUnderWay known before start c a
