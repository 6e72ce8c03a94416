use Rattle.std.proofs.Common.{map}
use Rattle.leo_clause.specs.Trees.{ClauseTree, clause_at}
use Rattle.leo_keep.specs.Groups.{IsLeastAmong}
use Rattle.leo_keep.specs.Subsumption.{Subsumes}
use Rattle.leo_keep.proofs.searching.least_subsuming.Given as goal

abbrev pub invariant-loop-place : goal.invariant-loop-place
invariant-loop-place l = IsLeastAmong (λ (k : ClauseTree). Subsumes k (clause_at l.bank l.target.clause.now)) (map (clause_at l.bank) l.kept) l.numbers l.place l.before l.least
