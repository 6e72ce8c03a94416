use Rattle.std.proofs.Common.{[], ◌≡◌, map, take, nat_eq}
use Rattle.leo_clause.specs.Trees.{literal_at}
use Rattle.leo_clause.specs.Arranging.{firsts, occurring_in}
use Rattle.leo_clause.specs.Renaming.{AreMet}
use Rattle.leo_clause.proofs.arranging.order_of.Given as goal

abbrev pub invariant-loop-lit : goal.invariant-loop-lit
invariant-loop-lit l = (l.order.keys ≡ firsts nat_eq [] (occurring_in (map (literal_at l.bank) (take l.lit-index l.lits)))) × AreMet l.bank l.visited.keys l.order.keys
