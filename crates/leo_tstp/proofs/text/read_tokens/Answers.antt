use Rattle.std.proofs.Common.{List, sym, subst}
use Rattle.leo_clause.specs.declared.record.StepRecord.{StepRecord}
use Rattle.leo_tstp.specs.Built.{AreStepsRead}
use Rattle.leo_tstp.proofs.Problems.{problem-kept}
use Rattle.leo_tstp.proofs.text.read_tokens.Goals as goal

pub compared-requires-clause-problem : goal.compared-requires-clause-problem
compared-requires-clause-problem c = problem-kept c.args.problem.now c.parsed.new.problem c.parsed.ensures.grows c.parsed.ensures.stays c.requires.problem

pub compared-requires-clause-steps : goal.compared-requires-clause-steps
compared-requires-clause-steps c = subst (λ (ss : List StepRecord). AreStepsRead c.parsed.new.problem.bank ss) (sym c.deref.ensures.value) c.in_ok-steps.ensures.read

pub returns-clause-read : goal.returns-clause-read
returns-clause-read c = subst (λ (ss : List StepRecord). AreStepsRead c.parsed.new.problem.bank ss) (sym c.from_vec.ensures) c.in_ok-steps.ensures.read
