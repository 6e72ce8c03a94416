use Rattle.std.proofs.Common.{refl, ◌∙◌}
use Rattle.leo_top.proofs.Runs.{bank_of, grown_itself, grown_twice, none_left}
use Rattle.leo_top.proofs.running.run.Goals as goal

pub turns-init : goal.turns-init
turns-init c = record { going = c.requires.going; problem = grown_itself c.requires.bank; settings = refl }

pub step-requires-clause-bank : goal.step-requires-clause-bank
step-requires-clause-bank c = bank_of c.turns.invariant.problem

pub returns-in-Some-clause-problem : goal.returns-in-Some-clause-problem
returns-in-Some-clause-problem c = grown_twice c.turns.invariant.problem c.step.ensures.problem

pub turns-preserved : goal.turns-preserved
turns-preserved c = record {
  going = c.step.ensures.ended ∙ none_left c.step.result c.in_default.not-Some;
  problem = grown_twice c.turns.invariant.problem c.step.ensures.problem;
  settings = c.step.ensures.settings ∙ c.turns.invariant.settings;
}
