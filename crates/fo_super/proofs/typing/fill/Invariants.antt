use Rattle.std.proofs.Common.{length}
use Rattle.std.specs.Prelude.{reverse, ◌↔◌}
use Rattle.fo_replay.specs.Parts.{Fill}
use Rattle.fo_super.proofs.typing.fill.Given as goal

abbrev pub invariant-loop-node : goal.invariant-loop-node
invariant-loop-node l = Fill l.vars l.syms (reverse l.fn.wants.items) l.nodes ↔ Fill l.vars l.syms (reverse l.wants.items) l.rest

abbrev pub decreases-loop-node : goal.decreases-loop-node
decreases-loop-node l = length l.rest
