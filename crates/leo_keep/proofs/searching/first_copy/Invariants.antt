use Rattle.std.proofs.Common.{◌≡◌}
use Rattle.leo_clause.specs.declared.clause.Clause.{Clause}
use Rattle.leo_clause.specs.Trees.{clause_at}
use Rattle.leo_keep.proofs.Numbers.{NoneBelow}
use Rattle.leo_keep.proofs.searching.first_copy.Given as goal

abbrev pub invariant-loop-number : goal.invariant-loop-number
invariant-loop-number l = NoneBelow (λ (k : Clause). clause_at l.bank k ≡ clause_at l.bank l.c) l.kept l.number
