use Rattle.std.proofs.Common.{◌≡◌, map}
use Rattle.leo_clause.specs.Trees.{ClauseTree, clause_at}
use Rattle.leo_keep.specs.Groups.{IsLeastAmong}
use Rattle.leo_keep.proofs.searching.least_copy.Given as goal

abbrev pub invariant-loop-place : goal.invariant-loop-place
invariant-loop-place l = IsLeastAmong (λ (k : ClauseTree). k ≡ clause_at l.bank l.c) (map (clause_at l.bank) l.kept) l.numbers l.place l.before l.least
