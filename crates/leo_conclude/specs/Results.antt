-- What `conclusions` promises of its answer.
use Rattle.std.specs.Prelude.{ℕ, ◌≡◌, ◌<◌, true, List, [], ◌∷◌, length, map, slice_get, Some}
use Rattle.leo_terms.specs.Contents.{Contents}
use Rattle.leo_clause.specs.Trees.{ClauseTree, clause_at}
use Rattle.leo_clause.specs.Typed.{IsTypedIn}
use Rattle.leo_kernel.specs.Acceptance.{AreAcceptedAfter}
use Rattle.leo_kernel.specs.Records.{AreStepsOf}
use Rattle.leo_kernel.specs.Steps.{StepRule, line_at}
use Rattle.leo_clausify.specs.Leaves.{last_clause}
use Rattle.leo_clausify.specs.Splitting.{AreNormal}
use Rattle.leo_unify.specs.Origins.{Origin}
use Rattle.leo_conclude.specs.Origins.{AreLinesFrom, IsClauseFrom}
use Rattle.leo_conclude.specs.declared.concluding.Conclusion.{Conclusion}

-- the clause is typed and in normal form, and its records are accepted after a line with the clause `start`, which may come by any rule,
-- and end in it; each base type in them is `$o` or stands in that clause, and each symbol stands there
pub record IsConclusionOf (c : Contents) (start : ClauseTree) (r : Conclusion) : Type 0 where
  pub typed : IsTypedIn c r.clause
  pub normal : AreNormal (clause_at c r.clause).literals
  pub steps : AreStepsOf c r.records
  pub accepted : (rule : StepRule) → AreAcceptedAfter (record { clause = start; rule = rule } ∷ []) (map (line_at c) r.records)
  pub some : 0 < length r.records
  pub ends : last_clause start (map (line_at c) r.records) ≡ clause_at c r.clause
  pub origin : (o : Origin) → o.has_base 0 ≡ true → IsClauseFrom o start → AreLinesFrom o (map (line_at c) r.records)

abbrev pub conclusion_clause : Contents → Conclusion → ClauseTree
conclusion_clause c r = clause_at c r.clause

abbrev pub AreConclusionsOf : Contents → ClauseTree → List Conclusion → Type 0
AreConclusionsOf c start rs = (n : ℕ) (r : Conclusion) → slice_get rs n ≡ Some r → IsConclusionOf c start r
