use Rattle.std.proofs.Common.{◌≡◌, ◌<◌, length}
use Rattle.leo_terms.specs.Contents.{tree_at}
use Rattle.leo_para.specs.Spines.{applied_head}
use Rattle.leo_ext.proofs.heads.function_of.Given as goal

abbrev pub invariant-loop-f : goal.invariant-loop-f
invariant-loop-f l = (applied_head (tree_at l.bank l.function) ≡ applied_head (tree_at l.bank l.fn.t)) × (l.function < length l.bank.terms)

abbrev pub decreases-loop-f : goal.decreases-loop-f
decreases-loop-f l = l.function
