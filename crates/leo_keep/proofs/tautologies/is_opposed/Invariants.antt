use Rattle.leo_clause.specs.declared.clause.Lit.{Lit}
use Rattle.leo_clause.specs.Trees.{literal_at}
use Rattle.leo_keep.specs.Tautologies.{Opposes}
use Rattle.leo_keep.proofs.Numbers.{NoneBelow}
use Rattle.leo_keep.proofs.tautologies.is_opposed.Given as goal

abbrev pub invariant-loop-other : goal.invariant-loop-other
invariant-loop-other l = NoneBelow (λ (k : Lit). Opposes (literal_at l.bank l.lit) (literal_at l.bank k)) l.others l.other-index
