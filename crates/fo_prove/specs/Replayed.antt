-- The steps of a refutation, replayed.
use Rattle.std.specs.Prelude.{ℕ, ◌≡◌, List, Some, slice_get}
use Rattle.fo_text.specs.declared.problem.FoClause.{FoClause}
use Rattle.fo_text.specs.declared.problem.FoProblem.{FoProblem}
use Rattle.fo_text.specs.declared.answer.FoStep.{FoStep}
use Rattle.fo_text.specs.declared.answer.FoEnd.TheVariants.{Refuted}
use Rattle.fo_text.specs.Problems.{IsProblem}
use Rattle.fo_super.specs.Replaying.{ReplayInTurn}
use Rattle.fo_prove.specs.Answers.{with_beats, IsChildRun, IsEmptyClause}

-- the steps replay, each over the clauses of the text and of the steps before it, and one of their clauses is empty
pub record IsReplayed (p : FoProblem) (steps : List FoStep) : Type 0 where
  pub clauses : List FoClause
  pub replay : ReplayInTurn p.sorts p.syms p.clauses steps clauses
  pub place : ℕ
  pub empty : FoClause
  pub stands : slice_get clauses place ≡ Some empty
  pub is_empty : IsEmptyClause empty

-- the steps of each answer that is a refutation replay
abbrev pub RefutationsReplay : Type 0
RefutationsReplay = (p : FoProblem) (beats : ℕ) (steps : List FoStep) → IsProblem p → IsChildRun p (with_beats beats (Refuted steps)) → IsReplayed p steps
