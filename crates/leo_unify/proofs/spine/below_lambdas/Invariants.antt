use Rattle.std.proofs.Common.{◌≡◌, ◌<◌, length}
use Rattle.leo_terms.specs.Contents.{tree_at}
use Rattle.leo_unify.specs.Spines.{below_lambdas}
use Rattle.leo_unify.proofs.spine.below_lambdas.Given as goal

abbrev pub invariant-loop-body : goal.invariant-loop-body
invariant-loop-body l = (l.part < length l.bank.terms) × (below_lambdas (tree_at l.bank l.part) ≡ below_lambdas (tree_at l.bank l.fn.t))

abbrev pub decreases-loop-body : goal.decreases-loop-body
decreases-loop-body l = l.part
