use Rattle.std.proofs.Common.{map}
use Rattle.leo_clause.specs.declared.clause.Lit.{Lit}
use Rattle.leo_clause.specs.Trees.{literal_at}
use Rattle.leo_keep.specs.Tautologies.{HoldsWith}
use Rattle.leo_keep.proofs.Numbers.{NoneBelow}
use Rattle.leo_keep.proofs.tautologies.is_tautology.Given as goal

abbrev pub invariant-loop-lit : goal.invariant-loop-lit
invariant-loop-lit l = NoneBelow (λ (k : Lit). HoldsWith (literal_at l.bank k) (map (literal_at l.bank) l.lits)) l.lits l.lit-index
