use Rattle.fo_text.specs.declared.problem.FoLit.{FoLit}
use Rattle.fo_super.specs.Tautologies.{HoldsWith}
use Rattle.fo_super.proofs.Answering.{NoneBelow}
use Rattle.fo_super.proofs.tautologies.is_tautology.Given as goal

abbrev pub invariant-loop-literal : goal.invariant-loop-literal
invariant-loop-literal l = NoneBelow (λ (k : FoLit). HoldsWith k l.literals) l.literals l.literal-index
