use Rattle.leo_top.proofs.Ending.{answered_exact, answered_theorem, answered_unsatisfiable, answered_usage, answered_no_command, answered_shown, answered_read_fault, answered_write_fault}
use Rattle.leo_top.proofs.alone.leo3_alone.Goals as goal

pub returns-clause-exact : goal.returns-clause-exact
returns-clause-exact g c = answered_exact c.problems_are_unique.ensures c.answered.ensures.answer

pub returns-clause-theorem : goal.returns-clause-theorem
returns-clause-theorem g c = answered_theorem c.answered.ensures.answer

pub returns-clause-unsatisfiable : goal.returns-clause-unsatisfiable
returns-clause-unsatisfiable g c = answered_unsatisfiable c.answered.ensures.answer

pub returns-clause-usage : goal.returns-clause-usage
returns-clause-usage g c = answered_usage c.answered.ensures.answer

pub returns-clause-no_command : goal.returns-clause-no_command
returns-clause-no_command g c = answered_no_command c.answered.ensures.answer

pub returns-clause-read_fault : goal.returns-clause-read_fault
returns-clause-read_fault g c = answered_read_fault c.answered.ensures.answer

pub returns-clause-write_fault : goal.returns-clause-write_fault
returns-clause-write_fault g c = answered_write_fault c.answered.ensures.answer

pub returns-clause-shown : goal.returns-clause-shown
returns-clause-shown g c = answered_shown c.answered.ensures.answer
