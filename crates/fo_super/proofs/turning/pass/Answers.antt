use Rattle.fo_super.proofs.Choosing.{pass-over, pass-taken, rising-past}
use Rattle.fo_super.proofs.turning.pass.Goals as goal

pub returns-in-Some-clause-others : goal.returns-in-Some-clause-others
returns-in-Some-clause-others c = pass-over c.args.number c.args.passive.now c.in-Some.others.now c.args.list.now c.in-Some.ensures

pub returns-in_ok-push-in-None-clause-rising : goal.returns-in_ok-push-in-None-clause-rising
returns-in_ok-push-in-None-clause-rising c = rising-past c.args.number c.args.passive.now c.requires c.in-None.ensures

pub returns-in_ok-push-in-None-clause-others : goal.returns-in_ok-push-in-None-clause-others
returns-in_ok-push-in-None-clause-others c = pass-taken c.args.number c.args.passive.now c.args.list.now c.push.new.self c.requires c.in-None.ensures c.in_ok-push-in-None.ensures.ok
