use Rattle.std.proofs.Common.{◌≡◌, map}
use Rattle.leo_clause.specs.Trees.{ClauseTree, clause_at}
use Rattle.leo_keep.specs.Groups.{IsLeastInGroups}
use Rattle.leo_keep.proofs.searching.copied_with.Given as goal

abbrev pub invariant-loop-place : goal.invariant-loop-place
invariant-loop-place l = IsLeastInGroups (λ (k : ClauseTree). k ≡ clause_at l.bank l.c) (map (clause_at l.bank) l.kept) l.fronts l.groups l.place l.end l.least
