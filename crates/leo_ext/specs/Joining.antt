-- What `unary` promises of its answer.
use Rattle.std.specs.Prelude.{ℕ, ◌≡◌, ◌≤◌, ◌-◌, List, ◌++◌, length, map, slice_get, Some}
use Rattle.leo_terms.specs.Contents.{Contents}
use Rattle.leo_clause.specs.declared.clause.Clause.{Clause}
use Rattle.leo_clause.specs.declared.record.StepRecord.{StepRecord}
use Rattle.leo_clause.specs.Choices.{choice_at}
use Rattle.leo_clause.specs.Trees.{ClauseTree, clause_at}
use Rattle.leo_clause.specs.Typed.{IsTypedIn}
use Rattle.leo_para.specs.declared.member.Due.{Due}
use Rattle.leo_ext.specs.Listing.{AreMembers}
use Rattle.leo_ext.specs.Members.{Member, resolve_members, factor_members, bool_ext_members, primitive_members, choice_members}
use Rattle.leo_ext.specs.Unary.{AreUnary}

-- the list with more behind it
pub record StandFirst {X : Type 0} (xs ys : List X) : Type 0 where
  pub more : List X
  pub is : ys ≡ xs ++ more

-- the members by all kinds, in order, where these are by func_ext
abbrev pub joined : ℕ → ClauseTree → List Member → List Member
joined p c by_func_ext = resolve_members p c ++ (factor_members p c ++ (bool_ext_members p c ++ (by_func_ext ++ (primitive_members p c ++ choice_members p c))))

-- there is a last record, and its clause is typed
pub record EndsTyped (c : Contents) (d : Due) : Type 0 where
  pub last : StepRecord
  pub ends : slice_get d.records (length d.records - 1) ≡ Some last
  pub typed : IsTypedIn c last.clause

-- they are all members of a clause, in order; c is the bank and `before` the list of choice symbols when the call begins, d and
-- `after` when it ends
pub record AreUnaryIn (c d : Contents) (before after : List (ℕ × ℕ)) (k : Clause) (dues : List Due) : Type 0 where
  pub members : List Member
  pub unary : (known : ℕ) → known ≤ length c.symbols → AreUnary known (map (choice_at c) before) (clause_at c k) (map (choice_at d) after) members
  pub are : AreMembers d dues members
  pub last : (n : ℕ) (due : Due) → slice_get dues n ≡ Some due → EndsTyped d due
