-- Problem texts.
use Rattle.std.specs.Prelude.{ℕ, ◌≡◌, List}
use Rattle.fo_text.specs.declared.problem.FoProblem.{FoProblem}
use Rattle.fo_text.specs.Problems.{IsProblem}
use Rattle.fo_text.specs.Spellings.{problem_text}

abbrev pub IsProblemText : List ℕ → Type 0
IsProblemText z = (p : FoProblem) × IsProblem p × (z ≡ problem_text p)
