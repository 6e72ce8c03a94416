use Rattle.std.proofs.Common.{map, take}
use Rattle.leo_clause.specs.Trees.{literal_at}
use Rattle.leo_keep.specs.Heads.{HaveHeads}
use Rattle.leo_keep.proofs.heads.heads_of.Given as goal

abbrev pub invariant-loop-lit : goal.invariant-loop-lit
invariant-loop-lit l = HaveHeads l.bank (map (literal_at l.bank) (take l.lit-index l.lits)) l.heads.items
