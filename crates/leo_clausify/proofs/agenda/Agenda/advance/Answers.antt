use Rattle.leo_terms.proofs.CallerLemmas.{extends-itself}
use Rattle.leo_clausify.proofs.Stepping.{popped, pending-as}
use Rattle.leo_clausify.proofs.agenda.Agenda.advance.Goals as goal

pub finish-requires-clause-agenda : goal.finish-requires-clause-agenda
finish-requires-clause-agenda c = (popped c.args.bank.now c.args.self.now c.pop.new.self c.in-Some.branch c.requires c.in-Some.ensures).0

pub finish-requires-clause-branch : goal.finish-requires-clause-branch
finish-requires-clause-branch c = (popped c.args.bank.now c.args.self.now c.pop.new.self c.in-Some.branch c.requires c.in-Some.ensures).1

pub reduce-requires-clause-agenda : goal.reduce-requires-clause-agenda
reduce-requires-clause-agenda c = (popped c.args.bank.now c.args.self.now c.pop.new.self c.in-Some.branch c.requires c.in-Some.ensures).0

pub reduce-requires-clause-branch : goal.reduce-requires-clause-branch
reduce-requires-clause-branch c = (popped c.args.bank.now c.args.self.now c.pop.new.self c.in-Some.branch c.requires c.in-Some.ensures).1

pub returns-in-None-clause-grows : goal.returns-in-None-clause-grows
returns-in-None-clause-grows c = extends-itself c.is_sound.ensures.sound

pub returns-in_ok-progress-in-None-first_reducible-clause-progress : goal.returns-in_ok-progress-in-None-first_reducible-clause-progress
returns-in_ok-progress-in-None-first_reducible-clause-progress c = pending-as _ _ c.args.self.now _ c.pop.new.self c.in-Some.branch _ c.in-Some.ensures c.in_ok-progress-in-None-first_reducible.ensures.progress

pub returns-in_ok-reduce-in-Some-first_reducible-clause-progress : goal.returns-in_ok-reduce-in-Some-first_reducible-clause-progress
returns-in_ok-reduce-in-Some-first_reducible-clause-progress c = pending-as _ _ c.args.self.now _ c.pop.new.self c.in-Some.branch _ c.in-Some.ensures c.in_ok-reduce-in-Some-first_reducible.ensures.progress
