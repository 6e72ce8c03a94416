use Rattle.std.specs.Prelude.{All, ◌≡◌, ◌+◌, length}
use Rattle.fo_terms.specs.Places.{term_at}
use Rattle.fo_terms.specs.Bindings.{IsIndexed, AreMade, open_places}
use Rattle.fo_terms.specs.Classes.{IsForest, roots}
use Rattle.fo_terms.specs.Solving.{IsWithin, IsState}
use Rattle.fo_terms.proofs.unify.solve.Given as goal

abbrev pub invariant-loop-work : goal.invariant-loop-work
invariant-loop-work l =
    IsIndexed l.bindings.made.items l.bindings.numbers
    × AreMade l.places.nodes.items l.bindings.made.items
    × IsForest l.classes.parents.items
    × (length l.classes.parents.items ≡ length l.places.nodes.items)
    × All (IsWithin l.places.nodes.items) l.work.items
    × IsState l.places.nodes.items l.bindings.made.items l.classes.parents.items (term_at l.places.nodes.items 0) (term_at l.places.nodes.items l.right) l.work.items

abbrev pub decreases-loop-work : goal.decreases-loop-work
decreases-loop-work l = open_places l.bindings.made.items l.places.nodes.items + roots l.classes.parents.items
