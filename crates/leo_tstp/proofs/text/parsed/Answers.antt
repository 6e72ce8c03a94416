use Rattle.std.proofs.Common.{length}
use Rattle.leo_terms.proofs.CallerLemmas.{extends-trans}
use Rattle.leo_tstp.proofs.Problems.{in-bank}
use Rattle.leo_tstp.proofs.Stepped.{rising-lower}
use Rattle.leo_tstp.proofs.text.parsed.Goals as goal

pub steps_of-requires-clause-problem : goal.steps_of-requires-clause-problem
steps_of-requires-clause-problem c = in-bank c.args.problem.now c.start_of.new.bank c.start_of.ensures.grows c.requires.problem

pub returns-in-Ok-steps_of-clause-new : goal.returns-in-Ok-steps_of-clause-new
returns-in-Ok-steps_of-clause-new c = rising-lower (length c.args.problem.now.bank.symbols) (length c.start_of.new.bank.symbols) _ _ c.start_of.ensures.grows.symbols_more c.in-Ok-steps_of.ensures.new

pub returns-in-Ok-steps_of-clause-grows : goal.returns-in-Ok-steps_of-clause-grows
returns-in-Ok-steps_of-clause-grows c = extends-trans c.start_of.ensures.grows c.steps_of.ensures.grows

pub returns-in-Err-Refused-clause-grows : goal.returns-in-Err-Refused-clause-grows
returns-in-Err-Refused-clause-grows c = extends-trans c.start_of.ensures.grows c.steps_of.ensures.grows

pub returns-clause-grows : goal.returns-clause-grows
returns-clause-grows c = extends-trans c.start_of.ensures.grows c.steps_of.ensures.grows
