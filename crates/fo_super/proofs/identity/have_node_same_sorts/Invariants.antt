use Rattle.fo_super.specs.Matching.{HasNodeSameSorts}
use Rattle.fo_super.proofs.Sorting.{EachBelow}
use Rattle.fo_super.proofs.identity.have_node_same_sorts.Given as goal

abbrev pub invariant-loop-place : goal.invariant-loop-place
invariant-loop-place l = EachBelow (HasNodeSameSorts l.vars l.others) l.nodes l.place
