use Rattle.leo_core.proofs.Runs.{runs_are_counted, ends_come_last, ends_are_entered, endings_are_right}
use Rattle.leo_core.proofs.laws.run_laws.Goals as goal

pub returns-clause-counted : goal.returns-clause-counted
returns-clause-counted c = runs_are_counted

pub returns-clause-last : goal.returns-clause-last
returns-clause-last c = ends_come_last

pub returns-clause-entered : goal.returns-clause-entered
returns-clause-entered c = ends_are_entered

pub returns-clause-endings : goal.returns-clause-endings
returns-clause-endings c = endings_are_right
