use Rattle.std.proofs.Common.{◌≡◌, ◌<◌, length}
use Rattle.leo_terms.specs.Contents.{tree_at}
use Rattle.leo_unify.specs.Spines.{applied_head}
use Rattle.leo_unify.proofs.spine.applied_head.Given as goal

abbrev pub invariant-loop-f : goal.invariant-loop-f
invariant-loop-f l = (l.part < length l.bank.terms) × (applied_head (tree_at l.bank l.part) ≡ applied_head (tree_at l.bank l.fn.t))

abbrev pub decreases-loop-f : goal.decreases-loop-f
decreases-loop-f l = l.part
