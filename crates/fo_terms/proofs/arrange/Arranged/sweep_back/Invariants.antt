use Rattle.std.proofs.Common.{◌≤◌, length}
use Rattle.fo_terms.specs.Arranging.{AreArranged, unmarked}
use Rattle.fo_terms.proofs.arrange.Arranged.sweep_back.Given as goal

abbrev pub invariant-loop-number : goal.invariant-loop-number
invariant-loop-number l =
    (l.number ≤ length l.bindings.made.items)
    × AreArranged l.places.nodes.items l.bindings.made.items l.self.marks.items l.self.done.items
    × (unmarked l.self.marks.items ≤ unmarked l.initial.self.marks.items)

abbrev pub decreases-loop-number : goal.decreases-loop-number
decreases-loop-number l = l.number
