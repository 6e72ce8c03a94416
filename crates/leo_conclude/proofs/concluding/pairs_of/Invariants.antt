use Rattle.std.proofs.Common.{◌≡◌, map, take}
use Rattle.leo_clause.specs.Trees.{clause_at}
use Rattle.leo_unify.specs.Given.{AreTypedPairs, pair_of}
use Rattle.leo_conclude.specs.Conclusions.{constraint_pairs}
use Rattle.leo_conclude.proofs.concluding.pairs_of.Given as goal

abbrev pub invariant-loop-number : goal.invariant-loop-number
invariant-loop-number l = (map (pair_of l.bank) l.pairs ≡ constraint_pairs (clause_at l.bank l.clause) (take l.number-index l.constraints)) × AreTypedPairs l.bank (clause_at l.bank l.clause).variables l.pairs
