use Rattle.fo_terms.specs.Arranging.{AreArranged, unmarked}
use Rattle.fo_terms.proofs.arrange.arrange.Given as goal

abbrev pub invariant-loop-arranged : goal.invariant-loop-arranged
invariant-loop-arranged l = AreArranged l.places.nodes.items l.bindings.made.items l.arranged.marks.items l.arranged.done.items

abbrev pub decreases-loop-arranged : goal.decreases-loop-arranged
decreases-loop-arranged l = unmarked l.arranged.marks.items
