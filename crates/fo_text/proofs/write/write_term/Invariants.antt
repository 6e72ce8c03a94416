use Rattle.std.proofs.Common.{◌≡◌, ◌++◌, take}
use Rattle.fo_text.specs.Spellings.{nodes_text}
use Rattle.fo_text.proofs.write.write_term.Given as goal

abbrev pub invariant-loop-node : goal.invariant-loop-node
invariant-loop-node l = l.out.items ≡ l.fn.out.items ++ nodes_text (take l.node-index l.node-items)
