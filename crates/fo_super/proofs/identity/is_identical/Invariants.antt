use Rattle.fo_super.proofs.Sorting.{AlikeBelow}
use Rattle.fo_super.proofs.identity.is_identical.Given as goal

abbrev pub invariant-loop-place : goal.invariant-loop-place
invariant-loop-place l = AlikeBelow l.clause.vars l.other.vars l.clause.lits l.other.lits l.place
