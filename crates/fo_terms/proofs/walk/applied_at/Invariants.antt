use Rattle.std.proofs.Common.{◌≡◌, ◌++◌}
use Rattle.std.specs.Prelude.{All}
use Rattle.fo_terms.specs.Terms.{size_of_all}
use Rattle.fo_terms.specs.Substitutions.{apply}
use Rattle.fo_terms.specs.Prefix.{prefix, prefix_of_all}
use Rattle.fo_terms.specs.Places.{term_at}
use Rattle.fo_terms.specs.Bindings.{solution, pending, IsSpan}
use Rattle.fo_terms.proofs.walk.applied_at.Given as goal

abbrev pub invariant-loop-nodes : goal.invariant-loop-nodes
invariant-loop-nodes l =
    All (IsSpan l.places.nodes.items) l.spans.items
    × (l.nodes.items ++ prefix_of_all (pending l.places.nodes.items (solution l.places.nodes.items l.bindings.made.items) l.spans.items) ≡ prefix (apply (solution l.places.nodes.items l.bindings.made.items) (term_at l.places.nodes.items l.place)))

abbrev pub decreases-loop-nodes : goal.decreases-loop-nodes
decreases-loop-nodes l = size_of_all (pending l.places.nodes.items (solution l.places.nodes.items l.bindings.made.items) l.spans.items)
