use Rattle.std.proofs.Common.{◌≡◌, take}
use Rattle.std.specs.List.{flat_map}
use Rattle.fo_replay.specs.Replays.{images}
use Rattle.fo_replay.specs.Parts.{image_nodes}
use Rattle.fo_replay.specs.Instances.{as_terms}
use Rattle.fo_super.proofs.applying.image_nodes_of.Given as goal

abbrev pub invariant-loop-node : goal.invariant-loop-node
invariant-loop-node l = l.out.items ≡ flat_map (image_nodes (images (as_terms l.terms))) (take l.node-index l.nodes)
