use Rattle.std.proofs.Common.{◌≡◌, take}
use Rattle.std.specs.List.{flat_map}
use Rattle.fo_replay.specs.Parts.{image_nodes}
use Rattle.fo_super.specs.Numbering.{renaming}
use Rattle.fo_super.proofs.numbering.renamed_nodes.Given as goal

abbrev pub invariant-loop-node : goal.invariant-loop-node
invariant-loop-node l = l.list.items ≡ flat_map (image_nodes (renaming l.names)) (take l.node-index l.nodes)
