use Rattle.fo_text.specs.declared.problem.FoLit.{FoLit}
use Rattle.fo_super.specs.Tautologies.{Opposes}
use Rattle.fo_super.proofs.Answering.{NoneBelow}
use Rattle.fo_super.proofs.tautologies.is_opposed.Given as goal

abbrev pub invariant-loop-other : goal.invariant-loop-other
invariant-loop-other l = NoneBelow (λ (k : FoLit). Opposes l.literal k) l.others l.other-index
