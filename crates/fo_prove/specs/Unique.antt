-- A problem has one answer.
use Rattle.std.specs.Prelude.{ℕ, ◌≡◌, ◌⊎◌, List, Option}
use Rattle.leo_edge.specs.Outside.{HasRisen}
use Rattle.fo_text.specs.declared.problem.FoProblem.{FoProblem}
use Rattle.fo_text.specs.declared.answer.FoAnswer.{FoAnswer}
use Rattle.fo_text.specs.Problems.{IsProblem}
use Rattle.fo_prove.specs.declared.status.FoStatus.{FoStatus}
use Rattle.fo_prove.specs.declared.status.FoStatus.TheVariants as status
use Rattle.fo_prove.specs.Answers.{IsChildRun}
use Rattle.fo_prove.specs.Proving.{IsWorked}

-- the runs of the machine on a problem have one answer
abbrev pub AnswersAreUnique : Type 0
AnswersAreUnique = (p : FoProblem) (a b : FoAnswer) → IsProblem p → IsChildRun p a → IsChildRun p b → a ≡ b

-- a call that ends so wrote its answer whole
abbrev pub IsWhole : FoStatus → Type 0
IsWhole s = (s ≡ status.Refuted) ⊎ (s ≡ status.GaveUp)

-- what calls write that answer a problem whole is one text, and they end alike, whatever faults their sinks counted
abbrev pub WholeAnswersAreUnique : Type 0
WholeAnswersAreUnique = (p : FoProblem) (before now other : Option (List ℕ)) (f g h k : ℕ) (s t : FoStatus) → IsProblem p →
    IsWorked p before now (HasRisen f g) s → IsWorked p before other (HasRisen h k) t → IsWhole s → IsWhole t → (s ≡ t) × (now ≡ other)
