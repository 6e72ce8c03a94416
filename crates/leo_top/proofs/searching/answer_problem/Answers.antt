use Rattle.leo_top.proofs.Runs.{new_answered, new_bank_of}
use Rattle.leo_top.proofs.searching.answer_problem.Goals as goal

pub answer_book-requires-clause-bank : goal.answer_book-requires-clause-bank
answer_book-requires-clause-bank c = new_bank_of c.in-Ok.ensures.new

pub returns-in-Ok : goal.returns-in-Ok
returns-in-Ok c = new_answered c.args.file.now c.answer_book.result c.requires.problem c.in-Ok.ensures.new c.answer_book.ensures
