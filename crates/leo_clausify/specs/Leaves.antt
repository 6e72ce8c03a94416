-- What `split` promises of its answer.
use Rattle.std.specs.Prelude.{ℕ, ◌≡◌, ◌<◌, true, List, [], ◌∷◌, ◌++◌, length, map, slice_get, Some}
use Rattle.leo_terms.specs.Tree.{type_of}
use Rattle.leo_terms.specs.Contents.{Contents}
use Rattle.leo_clause.specs.declared.choices.Abbr.{Abbr}
use Rattle.leo_clause.specs.declared.clause.Clause.{Clause}
use Rattle.leo_clause.specs.Choices.{Choice, choices_at}
use Rattle.leo_clause.specs.Trees.{ClauseTree, clause_at}
use Rattle.leo_clause.specs.Typed.{IsTypedIn}
use Rattle.leo_kernel.specs.Acceptance.{AreAcceptedAfter}
use Rattle.leo_kernel.specs.Conclusions.{abbreviated}
use Rattle.leo_kernel.specs.Records.{AreStepsOf}
use Rattle.leo_kernel.specs.Steps.{StepRule, abbreviate, Line, line_at}
use Rattle.leo_clausify.specs.declared.leaves.Leaf.{Leaf}
use Rattle.leo_clausify.specs.declared.leaves.Split.{Split}
use Rattle.leo_clausify.specs.declared.leaves.Split.TheVariants.{Clauses, Room}
use Rattle.leo_clausify.specs.Origins.{Origin, IsClauseFrom, AreChoicesFrom, AreLinesFrom}
use Rattle.leo_clausify.specs.Splitting.{AreNormal, Splits, Overflows}

-- the line that abbreviates a choice symbol
abbrev pub choice_line : Choice → Line
choice_line k = record { clause = abbreviated k.number (type_of k.term) k.term; rule = abbreviate k.number }

-- the lines on which the records of a leaf follow: those of the choice symbols, and the clause, which may come by any rule
abbrev pub first_lines : List Choice → ClauseTree → StepRule → List Line
first_lines choices c rule = map choice_line choices ++ record { clause = c; rule = rule } ∷ []

-- the clause of the last line
abbrev pub last_clause : ClauseTree → List Line → ClauseTree
last_clause c [] = c
last_clause c (l ∷ ls) = last_clause l.clause ls

-- the clause is typed and in normal form, and its records are accepted and end in it; each base type in them is `$o` or stands
-- in the first clause or with the choice symbols, and each symbol stands there
pub record IsLeafOf (c : Contents) (choices : List Choice) (start : ClauseTree) (leaf : Leaf) : Type 0 where
  pub typed : IsTypedIn c leaf.clause
  pub normal : AreNormal (clause_at c leaf.clause).literals
  pub steps : AreStepsOf c leaf.records
  pub accepted : (rule : StepRule) → AreAcceptedAfter (first_lines choices start rule) (map (line_at c) leaf.records)
  pub some : 0 < length leaf.records
  pub ends : last_clause start (map (line_at c) leaf.records) ≡ clause_at c leaf.clause
  pub origin : (o : Origin) → o.has_base 0 ≡ true → IsClauseFrom o start → AreChoicesFrom o choices → AreLinesFrom o (map (line_at c) leaf.records)

abbrev pub leaf_clause : Contents → Leaf → ClauseTree
leaf_clause c leaf = clause_at c leaf.clause

-- all leaves in order, if they are at most 256; else there is no room for them, and no choice symbol is new
abbrev pub IsSplit : Contents → Contents → Abbr → Abbr → Clause → Split → Type 0
IsSplit old new before after k (Clauses leaves) =
    Splits (length old.symbols) 256 (choices_at old before) (clause_at old k) (choices_at new after) (map (leaf_clause new) leaves)
    × ((n : ℕ) (leaf : Leaf) → slice_get leaves n ≡ Some leaf → IsLeafOf new (choices_at new after) (clause_at old k) leaf)
IsSplit old new before after k Room = Overflows (length old.symbols) 256 (choices_at old before) (clause_at old k) × (after ≡ before)
