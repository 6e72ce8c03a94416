use Rattle.std.proofs.Common.{◌≡◌, ◌<◌, length}
use Rattle.leo_terms.specs.Contents.{tree_at}
use Rattle.leo_keep.specs.Heads.{applied_head}
use Rattle.leo_keep.proofs.heads.head_of.Given as goal

abbrev pub invariant-loop-f : goal.invariant-loop-f
invariant-loop-f l = (applied_head (tree_at l.bank l.head) ≡ applied_head (tree_at l.bank l.fn.t)) × (l.head < length l.bank.terms)

abbrev pub decreases-loop-f : goal.decreases-loop-f
decreases-loop-f l = l.head
