-- What the calls that work inferences say to one another. For private contracts.
use Rattle.std.specs.Prelude.{ℕ, ◌≡◌, ◌<◌, ◌≤◌, true, List, [], length, map, slice_get, Some, None}
use Rattle.leo_terms.specs.Contents.{Contents}
use Rattle.leo_clause.specs.declared.record.StepRecord.{StepRecord}
use Rattle.leo_clause.specs.Trees.{ClauseTree}
use Rattle.leo_kernel.specs.Steps.{line_at}
use Rattle.leo_kernel.specs.Symbols.{abbreviation_of}
use Rattle.leo_clausify.specs.Leaves.{last_clause}
use Rattle.leo_clausify.specs.Origins.{Origin, AreLinesFrom}
use Rattle.leo_conclude.specs.declared.concluding.Conclusion.{Conclusion}
use Rattle.leo_conclude.specs.Leaving.{AreConstraints, AreNumbersOf}
use Rattle.leo_conclude.specs.Results.{IsConclusionOf}
use Rattle.leo_para.specs.declared.member.Due.{Due}
use Rattle.leo_turn.specs.declared.search.Search.{Search}
use Rattle.leo_turn.specs.Changing.{AreReady}
use Rattle.leo_turn.specs.Growth.{IsLonger}
use Rattle.leo_turn.specs.Searches.{AreAllBelow, HasClause, kept_of, lines_of}
use Rattle.leo_turn.specs.Turns.{Constrained, InfersAlone, InfersBetween, InfersWith, InfersWithEach, Setting, Stock, setting_of, stock_of}

-- the clause without literals
abbrev pub no_clause : ClauseTree
no_clause = record { variables = []; literals = [] }

-- what an inference of a bank leads to: the clause of its last record
abbrev pub constrained_at : Contents → Due → Constrained
constrained_at c d = record { clause = last_clause no_clause (map (line_at c) d.records); constraints = d.pairs }

-- an inference can be worked: its records follow on the lines with these numbers, each base type in them is `$o` or stands in the
-- lines, each symbol stands there, and what is to be solved are inequations
pub record IsDueAt (c : Contents) (lines : List StepRecord) (first : List ℕ) (d : Due) : Type 0 where
  pub ready : AreReady c lines first d.records
  pub origin : (o : Origin) → o.has_base 0 ≡ true → AreLinesFrom o (map (line_at c) lines) → AreLinesFrom o (map (line_at c) d.records)
  pub some : 0 < length d.records
  pub numbers : AreNumbersOf (constrained_at c d).clause.literals d.pairs
  pub constraints : AreConstraints (constrained_at c d).clause.literals d.pairs

abbrev pub AreDueAt : Contents → List StepRecord → List ℕ → List Due → Type 0
AreDueAt c lines first dues = (n : ℕ) (d : Due) → slice_get dues n ≡ Some d → IsDueAt c lines first d

-- the records of a conclusion follow on the line with this number, which does not abbreviate
pub record IsConclusionAt (c : Contents) (s : Search) (line : ℕ) (r : Conclusion) : Type 0 where
  pub start : ClauseTree
  pub clause : HasClause (lines_of c s) line start
  pub plain : abbreviation_of (lines_of c s) line ≡ None
  pub conclusion : IsConclusionOf c start r

abbrev pub AreConclusionsAt : Contents → Search → ℕ → List Conclusion → Type 0
AreConclusionsAt c s line rs = (n : ℕ) (r : Conclusion) → slice_get rs n ≡ Some r → IsConclusionAt c s line r

-- the stock of a search becomes that of another by this relation, for each problem whose symbols the bank had
abbrev pub Makes : Contents → Contents → Search → Search → (Setting → Stock → Stock → Type 0) → Type 0
Makes c d old new relation = (symbols : ℕ) → symbols ≤ length c.symbols → relation (setting_of symbols old) (stock_of c old) (stock_of d new)

-- what is inferred from a kept clause alone
abbrev pub MakesAlone : Contents → Contents → Search → Search → ℕ → Type 0
MakesAlone c d old new given = (k : ClauseTree) → slice_get (kept_of c old) given ≡ Some k → Makes c d old new (λ setting. InfersAlone setting k)

-- what is inferred from a kept clause into another
abbrev pub MakesBetween : Contents → Contents → Search → Search → ℕ → ℕ → Type 0
MakesBetween c d old new i j = (k l : ClauseTree) → slice_get (kept_of c old) i ≡ Some k → slice_get (kept_of c old) j ≡ Some l → Makes c d old new (λ setting. InfersBetween setting k l)

-- what is inferred between a kept clause and a partner, where the first of the kept clauses are those of the turn's start
abbrev pub MakesWith : Contents → Contents → Search → Search → ℕ → ℕ → Type 0
MakesWith c d old new given n = (clauses : List ClauseTree) → IsLonger clauses (kept_of c old) → given < length clauses → n < length clauses → Makes c d old new (λ setting. InfersWith setting clauses given n)

-- the same with all partners
abbrev pub MakesWithEach : Contents → Contents → Search → Search → ℕ → List ℕ → Type 0
MakesWithEach c d old new given partners = (clauses : List ClauseTree) → IsLonger clauses (kept_of c old) → given < length clauses → AreAllBelow (length clauses) partners → Makes c d old new (λ setting. InfersWithEach setting clauses given partners)
