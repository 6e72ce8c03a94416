use Rattle.std.proofs.Common.{[], ◌≡◌, take}
use Rattle.leo_clause.specs.Sameness.{same_numbers}
use Rattle.leo_clause.specs.Arranging.{firsts}
use Rattle.leo_clause.proofs.arranging.distinct.Given as goal

abbrev pub invariant-loop-lit : goal.invariant-loop-lit
invariant-loop-lit l = l.kept ≡ firsts same_numbers [] (take l.lit-index l.lits)
