use Rattle.leo_core.specs.Machine.{no_memory}
use Rattle.leo_top.proofs.Runs.{grown_same}
use Rattle.leo_top.proofs.running.step.Goals as goal

pub finish-requires-in-Err-clause-cause : goal.finish-requires-in-Err-clause-cause
finish-requires-in-Err-clause-cause c = no_memory

pub returns-in-Some-clause-problem : goal.returns-in-Some-clause-problem
returns-in-Some-clause-problem c = grown_same c.requires.bank c.finish.ensures.problem
