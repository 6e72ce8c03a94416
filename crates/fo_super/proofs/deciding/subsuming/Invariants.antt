use Rattle.std.proofs.Common.{◌<◌, ◌≤◌, ◌-◌, length}
use Rattle.fo_text.specs.declared.problem.FoClause.{FoClause}
use Rattle.fo_super.specs.Subsumption.{Subsumes}
use Rattle.fo_super.proofs.Answering.{NoneBelow}
use Rattle.fo_super.proofs.deciding.subsuming.Given as goal

abbrev pub invariant-loop-number : goal.invariant-loop-number
invariant-loop-number l = (l.number ≤ length l.kept) × NoneBelow (λ (k : FoClause). Subsumes l.syms k l.clause) l.kept l.number

abbrev pub decreases-loop-number : goal.decreases-loop-number
decreases-loop-number l = length l.kept - l.number
