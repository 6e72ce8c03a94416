use Rattle.leo_unify.proofs.pairs.+paired.Given as goal

abbrev pub decreases-paired : goal.decreases-paired
decreases-paired l = l.l
