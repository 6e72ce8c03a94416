-- Kept clauses in groups by the heads of their first literals, and the search for the least number of one. For private contracts.
use Rattle.std.specs.Prelude.{ℕ, ◌≡◌, ◌<◌, ◌≤◌, ◌⊎◌, List, map, slice_get, Option, Some, None}
use Rattle.leo_terms.specs.Contents.{Contents}
use Rattle.leo_clause.specs.declared.clause.Lit.{Lit}
use Rattle.leo_clause.specs.Trees.{ClauseTree, literal_at}
use Rattle.leo_clause.specs.Typed.{AreLiteralsOf, IsTypedIn}
use Rattle.leo_keep.specs.declared.fronts.Front.{Front}
use Rattle.leo_keep.specs.declared.groups.Group.{Group}
use Rattle.leo_keep.specs.declared.searching.Target.{Target}
use Rattle.leo_keep.specs.Fronts.{IsFrontIn}
use Rattle.leo_keep.specs.Heads.{HaveHeads}

-- a group with these heads has the number
pub record IsGrouped (groups : List Group) (heads : Lit) (n : ℕ) : Type 0 where
  pub place : ℕ
  pub group : Group
  pub stands : slice_get groups place ≡ Some group
  pub heads_are : group.heads ≡ heads
  pub index : ℕ
  pub has : slice_get group.numbers.items index ≡ Some n

-- no number left its group
abbrev pub StayGrouped : List Group → List Group → Type 0
StayGrouped old new = (heads : Lit) (n : ℕ) → IsGrouped old heads n → IsGrouped new heads n

-- each clause with literals stands in the group of its heads
abbrev pub AreGrouped : List (Option Front) → List Group → Type 0
AreGrouped fronts groups = (n : ℕ) (f : Front) → slice_get fronts n ≡ Some (Some f) → IsGrouped groups f.heads n

-- a clause with this front stands in its group; the clause without literals in none
abbrev pub IsFrontGrouped : List Group → Option Front → ℕ → Type 0
IsFrontGrouped groups None n = Unit {0}
IsFrontGrouped groups (Some f) n = IsGrouped groups f.heads n

-- the group at the place has these heads
pub record HasHeadsAt (groups : List Group) (place : ℕ) (heads : Lit) : Type 0 where
  pub group : Group
  pub stands : slice_get groups place ≡ Some group
  pub heads_are : group.heads ≡ heads

-- ---- the search for the least number

-- P holds of the clause of that number
pub record HoldsAt (P : ClauseTree → Type 0) (clauses : List ClauseTree) (n : ℕ) : Type 0 where
  pub clause : ClauseTree
  pub stands : slice_get clauses n ≡ Some clause
  pub holds : P clause

-- P holds not of the clause of that number, if there is one
abbrev pub FailsAt : (ClauseTree → Type 0) → List ClauseTree → ℕ → Type 0
FailsAt P clauses n = (k : ClauseTree) → slice_get clauses n ≡ Some k → P k → ⊥

-- `after` is the bound, or the number of a clause of which P holds
pub record IsLower (P : ClauseTree → Type 0) (clauses : List ClauseTree) (before after : ℕ) : Type 0 where
  pub lower : after ≤ before
  pub found : (after ≡ before) ⊎ HoldsAt P clauses after

-- and P holds of no clause below it whose number is one of the first `count` of these
pub record IsLeastAmong (P : ClauseTree → Type 0) (clauses : List ClauseTree) (numbers : List ℕ) (count before after : ℕ) : Type 0 where
  pub is_lower : IsLower P clauses before after
  pub none : (i n : ℕ) → i < count → slice_get numbers i ≡ Some n → n < after → FailsAt P clauses n

-- nor of one below it that stands in the group by its front
pub record IsLeastInGroup (P : ClauseTree → Type 0) (clauses : List ClauseTree) (fronts : List (Option Front)) (group : Group) (before after : ℕ) : Type 0 where
  pub is_lower : IsLower P clauses before after
  pub none : (i n : ℕ) (f : Front) → slice_get group.numbers.items i ≡ Some n → slice_get fronts n ≡ Some (Some f) → f.heads ≡ group.heads → n < after → FailsAt P clauses n

-- nor of one below it in one of the first `count` groups
pub record IsLeastInGroups (P : ClauseTree → Type 0) (clauses : List ClauseTree) (fronts : List (Option Front)) (groups : List Group) (count before after : ℕ) : Type 0 where
  pub is_lower : IsLower P clauses before after
  pub none : (place : ℕ) (group : Group) (i n : ℕ) (f : Front) → place < count → slice_get groups place ≡ Some group → slice_get group.numbers.items i ≡ Some n → slice_get fronts n ≡ Some (Some f) → f.heads ≡ group.heads → n < after → FailsAt P clauses n

-- ---- what is looked for

-- a clause has this front
pub record HasFront (fronts : List (Option Front)) (f : Front) : Type 0 where
  pub place : ℕ
  pub stands : slice_get fronts place ≡ Some (Some f)

-- the heads of the fronts are terms of the bank
abbrev pub AreFrontsIn : Contents → List (Option Front) → Type 0
AreFrontsIn c fronts = (n : ℕ) (f : Front) → slice_get fronts n ≡ Some (Some f) → IsFrontIn c (Some f)

-- a typed clause with the heads of its literals
pub record IsTarget (c : Contents) (t : Target) : Type 0 where
  pub typed : IsTypedIn c t.clause.now
  pub heads : HaveHeads c (map (literal_at c) t.clause.now.lits) t.heads.now
  pub heads_of : AreLiteralsOf c t.heads.now
