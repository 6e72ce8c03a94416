-- What `para` promises of its answer.
use Rattle.std.specs.Prelude.{ℕ, ◌≡◌, List, [], ◌∷◌, map, slice_get, Some}
use Rattle.leo_terms.specs.Contents.{Contents}
use Rattle.leo_clause.specs.Trees.{ClauseTree}
use Rattle.leo_clause.specs.declared.record.StepRecord.{StepRecord}
use Rattle.leo_clause.specs.Typed.{IsTypedIn}
use Rattle.leo_kernel.specs.Acceptance.{AreAcceptedAfter}
use Rattle.leo_kernel.specs.Records.{AreStepsOf}
use Rattle.leo_kernel.specs.Steps.{StepRule, Line, line_at}
use Rattle.leo_para.specs.declared.member.Due.{Due}
use Rattle.leo_para.specs.Members.{Member, due_members, member_line, solved_literal}

-- an inference over trees: its lines, and the numbers of the literals that are to be solved
pub record Inference : Type 0 where
  pub lines : List Line
  pub solved : List ℕ

-- what an inference of a bank says
abbrev pub inference_at : Contents → Due → Inference
inference_at c d = record { lines = map (line_at c) d.records; solved = d.pairs }

-- that of a member: one line, whose last literal is to be solved
abbrev pub inference_of : ClauseTree → ClauseTree → Member → Inference
inference_of source target m = record { lines = member_line source target m ∷ []; solved = solved_literal source target ∷ [] }

-- the lines on which the records follow: those of the two clauses, which may come by any rules
abbrev pub first_lines : ClauseTree → StepRule → ClauseTree → StepRule → List Line
first_lines source first target second = record { clause = source; rule = first } ∷ record { clause = target; rule = second } ∷ []

-- the records are records of the bank with typed clauses, and are accepted
pub record IsDueFrom (c : Contents) (source target : ClauseTree) (d : Due) : Type 0 where
  pub steps : AreStepsOf c d.records
  pub typed : (n : ℕ) (s : StepRecord) → slice_get d.records n ≡ Some s → IsTypedIn c s.clause
  pub accepted : (first second : StepRule) → AreAcceptedAfter (first_lines source first target second) (map (line_at c) d.records)

-- they are the members that are due, in their order
pub record AreDue (c : Contents) (source target : ClauseTree) (dues : List Due) : Type 0 where
  pub listed : map (inference_at c) dues ≡ map (inference_of source target) (due_members source target)
  pub each : (n : ℕ) (d : Due) → slice_get dues n ≡ Some d → IsDueFrom c source target d
