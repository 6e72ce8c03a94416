use Rattle.fo_super.specs.Runs.{search_of}
use Rattle.fo_prove.proofs.Looking.{all_looked, if_none}
use Rattle.fo_prove.proofs.Working.{advanced, wants_memory}
use Rattle.fo_prove.proofs.running.advance.Goals as goal

pub returns-in-Ok-clause-advanced : goal.returns-in-Ok-clause-advanced
returns-in-Ok-clause-advanced g c = λ before so. advanced before _ _ so c.requires.going c.in-Ok.ensures.turn c.beat.ensures.beat

pub returns-in-Err-clause-advanced : goal.returns-in-Err-clause-advanced
returns-in-Err-clause-advanced g c = λ before so. wants_memory before _ so

pub returns-in-Ok-clause-looked : goal.returns-in-Ok-clause-looked
returns-in-Ok-clause-looked g c = if_none c.beat.result (all_looked c.args.state.now.problem (search_of c.args.state.now) (search_of c.fo_turn.new.state) c.in-Ok.ensures.turn c.requires.going.no_empty)
