use Rattle.std.proofs.Common.{◌≡◌, take}
use Rattle.fo_terms.specs.Prefix.{prefix_of_all}
use Rattle.fo_replay.specs.Instances.{as_terms}
use Rattle.fo_super.proofs.typing.nodes_of.Given as goal

abbrev pub invariant-loop-term : goal.invariant-loop-term
invariant-loop-term l = l.nodes.items ≡ prefix_of_all (as_terms (take l.term-index l.terms))
