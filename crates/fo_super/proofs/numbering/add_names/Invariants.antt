use Rattle.std.proofs.Common.{◌≡◌, take}
use Rattle.std.specs.List.{flat_map, fold}
use Rattle.fo_super.specs.Numbering.{node_variables, with_name}
use Rattle.fo_super.proofs.numbering.add_names.Given as goal

abbrev pub invariant-loop-node : goal.invariant-loop-node
invariant-loop-node l = l.names.items ≡ fold with_name l.fn.names.items (flat_map node_variables (take l.node-index l.nodes))
