use Rattle.std.proofs.Common.{◌≡◌, map, take}
use Rattle.fo_terms.specs.Bindings.{pair_of}
use Rattle.fo_terms.proofs.unify.pairs_of.Given as goal

abbrev pub invariant-loop-binding : goal.invariant-loop-binding
invariant-loop-binding l = l.pairs.items ≡ map (pair_of l.places.nodes.items l.bindings.made.items) (take l.binding-index l.bindings.made.items)
