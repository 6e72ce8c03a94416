use Rattle.std.proofs.Common.{◌≡◌, ◌<◌, length}
use Rattle.leo_terms.specs.Contents.{tree_at}
use Rattle.leo_unify.specs.Patterns.{index_at_head}
use Rattle.leo_unify.proofs.pattern.index_at_head.Given as goal

abbrev pub invariant-loop-index : goal.invariant-loop-index
invariant-loop-index l = (l.part < length l.bank.terms) × (index_at_head l.depth (tree_at l.bank l.part) ≡ index_at_head 0 (tree_at l.bank l.fn.t))

abbrev pub decreases-loop-index : goal.decreases-loop-index
decreases-loop-index l = l.part
