use Rattle.fo_replay.specs.Replays.{Gives}
use Rattle.fo_replay.proofs.Unique.{too_heavy}
use Rattle.fo_replay.proofs.replay.replay.Goals as goal

pub returns-else-is_light : goal.returns-else-is_light
returns-else-is_light c =
    let a = c.args in
    let g : Gives a.problem.now.sorts a.problem.now.syms a.clauses.now a.step.now c.in-Some.conclusion = rw c.in-Some.is at c.in_ok-conclusion.ensures in
    too_heavy a.problem.now.sorts a.problem.now.syms a.clauses.now a.step.now c.in-Some.conclusion c.is_light.result g c.is_light.ensures c.if-is_light.false
