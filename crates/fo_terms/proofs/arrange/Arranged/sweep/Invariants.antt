use Rattle.std.proofs.Common.{◌≡◌, ◌<◌, true, false}
use Rattle.fo_terms.specs.Arranging.{AreArranged, AreStuck, unmarked}
use Rattle.fo_terms.proofs.arrange.Arranged.sweep.Given as goal

abbrev pub invariant-loop-number : goal.invariant-loop-number
invariant-loop-number l =
    AreArranged l.places.nodes.items l.bindings.made.items l.self.marks.items l.self.done.items
    × (l.changed ≡ true → unmarked l.self.marks.items < unmarked l.initial.self.marks.items)
    × (l.changed ≡ false → l.self.marks.items ≡ l.initial.self.marks.items)
    × (l.changed ≡ false → AreStuck l.places.nodes.items l.bindings.made.items l.self.marks.items l.number)
