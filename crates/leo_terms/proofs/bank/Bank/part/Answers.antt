use Rattle.leo_terms.proofs.Parts.{is_part}
use Rattle.leo_terms.proofs.bank.Bank.part.Goals as goal

pub move_marked-requires-clause-parts : goal.move_marked-requires-clause-parts
move_marked-requires-clause-parts c = rw c.deref.ensures.value c.in_ok-marks.ensures.needed.parts

pub returns-clause-part : goal.returns-clause-part
returns-clause-part c = is_part c.args.self.now c.args.terms.now c.in_ok-marks.marks.items c.move_marked.new.part c.in_ok-moved.moved.items c.in_ok-numbers.numbers.items c.requires c.in_ok-marks.ensures.needed (rw c.deref.ensures.value at c.in_ok-moved.ensures.moved) (rw c.deref-2.ensures.value at c.in_ok-numbers.ensures)
