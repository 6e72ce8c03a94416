use Rattle.leo_terms.specs.Marks.{IsMoved}
use Rattle.leo_terms.proofs.bank.Bank.move_marked.Given as goal

abbrev pub invariant-loop-place : goal.invariant-loop-place
invariant-loop-place l = IsMoved l.self l.marks l.part l.numbers.items l.place
