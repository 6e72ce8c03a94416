use Rattle.std.proofs.Common.{◌≡◌, take}
use Rattle.std.specs.List.{flat_map}
use Rattle.fo_replay.specs.Parts.{shift, image_nodes}
use Rattle.fo_replay.proofs.para.moved_nodes.Given as goal

abbrev pub invariant-loop-node : goal.invariant-loop-node
invariant-loop-node l = l.list.items ≡ flat_map (image_nodes (shift l.by)) (take l.node-index l.nodes)
