use Rattle.leo_top.proofs.Answering.{run_made}
use Rattle.leo_top.proofs.Runs.{run_ended, bank_of, turns_same}
use Rattle.leo_top.proofs.searching.answer_book.Goals as goal

pub answer_run-requires-clause-limit : goal.answer_run-requires-clause-limit
answer_run-requires-clause-limit c = turns_same c.args.book.now c.run-cause.new.book c.requires.limit c.run-cause.ensures.settings

pub answer_run-requires-clause-bank : goal.answer_run-requires-clause-bank
answer_run-requires-clause-bank c = bank_of c.run-cause.ensures.problem

pub returns : goal.returns
returns c =
    run_made (run_ended c.args.book.now c.run-cause.new.book c.requires.problem c.run-cause.ensures.problem c.run-cause.ensures.settings c.run-cause.ensures.ended c.run-cause.ensures.book) c.in_ok-answer.ensures
