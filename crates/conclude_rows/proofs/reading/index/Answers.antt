use Rattle.conclude_rows.proofs.Ready.{thing-reads, made-ready}
use Rattle.conclude_rows.proofs.reading.index.Goals as goal

pub returns-clause-term : goal.returns-clause-term
returns-clause-term c = made-ready c.make_bound.new.self c.in_ok-made.made _ _ c.in_ok-made.ensures.made (λ k e. rw c.thing.ensures (thing-reads c.args.bank.now c.is_sound.ensures.sound))
