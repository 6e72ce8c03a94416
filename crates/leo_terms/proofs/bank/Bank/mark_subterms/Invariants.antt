use Rattle.leo_terms.specs.Marks.{AreNeeded}
use Rattle.leo_terms.proofs.bank.Bank.mark_subterms.Given as goal

abbrev pub invariant-loop-place : goal.invariant-loop-place
invariant-loop-place l = AreNeeded l.self l.terms l.marks.items l.place
