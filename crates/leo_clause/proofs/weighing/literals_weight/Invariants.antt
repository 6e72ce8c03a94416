use Rattle.std.proofs.Common.{◌≡◌, ◌-◌, ◌^◌, map, take}
use Rattle.std.specs.Prelude.{min}
use Rattle.leo_clause.specs.Trees.{literal_at}
use Rattle.leo_clause.specs.Weights.{literals_weight}
use Rattle.leo_clause.proofs.weighing.literals_weight.Given as goal

abbrev pub invariant-loop-lit : goal.invariant-loop-lit
invariant-loop-lit l = l.sum ≡ min (literals_weight (map (literal_at l.bank) (take l.lit-index l.lits))) (2 ^ 64 - 1)
