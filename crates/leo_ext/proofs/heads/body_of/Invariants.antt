use Rattle.std.proofs.Common.{◌≡◌, ◌<◌, length}
use Rattle.leo_terms.specs.Contents.{tree_at}
use Rattle.leo_para.specs.Spines.{below_lambdas}
use Rattle.leo_ext.proofs.heads.body_of.Given as goal

abbrev pub invariant-loop-body : goal.invariant-loop-body
invariant-loop-body l = (below_lambdas (tree_at l.bank l.below) ≡ below_lambdas (tree_at l.bank l.fn.t)) × (l.below < length l.bank.terms)

abbrev pub decreases-loop-body : goal.decreases-loop-body
decreases-loop-body l = l.below
