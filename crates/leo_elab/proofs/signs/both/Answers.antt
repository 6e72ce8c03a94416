use Rattle.leo_elab.proofs.Standing.{both-made, type-below, both-formula}
use Rattle.leo_elab.proofs.signs.both.Goals as goal

pub make_logic-requires-clause-type_within : goal.make_logic-requires-clause-type_within
make_logic-requires-clause-type_within c = type-below c.is_sound.ensures.sound c.args.op c.requires.takes

pub returns-clause-made : goal.returns-clause-made
returns-clause-made c = both-made c.make_logic.ensures.grows c.args.op c.requires.takes c.in_ok-r.ensures.made

pub returns-clause-formula : goal.returns-clause-formula
returns-clause-formula c = both-formula c.args.op c.requires.takes c.in_ok-r.ensures.made
