use Rattle.fo_super.specs.Runs.{search_of}
use Rattle.fo_prove.proofs.Finishing.{spent_end}
use Rattle.fo_prove.proofs.ends.ending.Goals as goal

pub returns-in_ok-e-in-None : goal.returns-in_ok-e-in-None
returns-in_ok-e-in-None c =
    spent_end c.args.state.now.problem (search_of c.args.state.now) c.in_ok-e-in-None.e.status c.in_ok-e-in-None.e.text.items c.requires.room (rw c.as_slice.ensures at c.in-None.ensures) (c.is_going.ensures.spent c.if-is_going.false) c.in_ok-e-in-None.ensures.status c.in_ok-e-in-None.ensures.text
