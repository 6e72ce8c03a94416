use Rattle.std.proofs.Common.{List, length}
use Rattle.fo_terms.specs.declared.term.FoNode.{FoNode}
use Rattle.fo_replay.proofs.Nodes.{Fronts}
use Rattle.fo_super.proofs.nodes.behind.Given as goal

abbrev pub invariant-loop-wanted : goal.invariant-loop-wanted
invariant-loop-wanted l = (back : List FoNode) → Fronts l.nodes back l.terms → Fronts l.rest back l.wanted

abbrev pub decreases-loop-wanted : goal.decreases-loop-wanted
decreases-loop-wanted l = length l.rest
