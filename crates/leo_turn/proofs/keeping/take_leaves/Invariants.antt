use Rattle.leo_turn.proofs.KeptLeaves.{AreTaken}
use Rattle.leo_turn.proofs.keeping.take_leaves.Given as goal

abbrev pub invariant-loop-leaf : goal.invariant-loop-leaf
invariant-loop-leaf l = AreTaken l.bank l.limit l.initial.search l.search l.leaves l.leaf-index
