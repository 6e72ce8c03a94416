-- A clause with the records that lead to it from one line. No public contract speaks of it.
use Rattle.std.specs.Prelude.{◌≡◌, true, ◌<◌, ◌≤◌, List, [], ◌∷◌, ◌++◌, length, map}
use Rattle.leo_terms.specs.Contents.{Contents}
use Rattle.leo_clause.specs.Trees.{Literal, ClauseTree, clause_at}
use Rattle.leo_clause.specs.Typed.{IsTypedIn}
use Rattle.leo_kernel.specs.Acceptance.{AreAcceptedAfter}
use Rattle.leo_kernel.specs.Records.{AreStepsOf}
use Rattle.leo_kernel.specs.Steps.{StepRule, line_at}
use Rattle.leo_clausify.specs.Leaves.{last_clause}
use Rattle.leo_clausify.specs.Splitting.{AreNormal}
use Rattle.leo_unify.specs.Origins.{Origin}
use Rattle.leo_conclude.specs.Origins.{AreLinesFrom, IsClauseFrom}
use Rattle.leo_conclude.specs.declared.derived.Derived.{Derived}

-- the records are accepted after a line with the clause `start`, by whatever rule it comes, and end in the clause; base types and
-- symbols in them come from that clause
pub record IsDerived (c : Contents) (start : ClauseTree) (d : Derived) : Type 0 where
  pub typed : IsTypedIn c d.clause
  pub steps : AreStepsOf c d.records
  pub accepted : (rule : StepRule) → AreAcceptedAfter (record { clause = start; rule = rule } ∷ []) (map (line_at c) d.records)
  pub ends : last_clause start (map (line_at c) d.records) ≡ clause_at c d.clause
  pub origin : (o : Origin) → o.has_base 0 ≡ true → IsClauseFrom o start → AreLinesFrom o (map (line_at c) d.records)

-- this clause is derived, and is in normal form
pub record IsDerivedAs (c : Contents) (start : ClauseTree) (d : Derived) (tree : ClauseTree) : Type 0 where
  pub derived : IsDerived c start d
  pub some : 0 < length d.records
  pub reads : clause_at c d.clause ≡ tree
  pub normal : AreNormal tree.literals

-- of the clause of d the part behind `front` and before `back` is now `new`
pub record IsChanged (c : Contents) (d r : Derived) (front new back : List Literal) : Type 0 where
  pub typed : IsTypedIn c r.clause
  pub variables : r.clause.vars ≡ d.clause.vars
  pub literals : (clause_at c r.clause).literals ≡ front ++ (new ++ back)
  pub longer : length d.records ≤ length r.records
  pub derived : (start : ClauseTree) → IsDerived c start d → IsDerived c start r
