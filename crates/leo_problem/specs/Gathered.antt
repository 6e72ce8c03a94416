-- What the files or the generated text of a problem give. For private contracts.
use Rattle.std.specs.Prelude.{ℕ, List, Option}
use Rattle.leo_problem.specs.declared.gathered.Counts.{Counts}
use Rattle.leo_problem.specs.declared.gathered.Kept.{Kept}
use Rattle.leo_problem.specs.Gathering.{GathersProblem, gathered}

pub record IsGathered (told : List ℕ → Option (List ℕ)) (name : List ℕ) (root : Option (List ℕ)) (ks : List Kept) : Type 0 where
  pub counts : Counts
  pub gathers : GathersProblem told name root (gathered ks counts)
