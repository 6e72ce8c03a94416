use Rattle.leo_para.proofs.Replaced.{other-first, other-second}
use Rattle.leo_para.proofs.replacing.logic_with.Goals as goal

pub with_arguments-requires-clause-typed : goal.with_arguments-requires-clause-typed
with_arguments-requires-clause-typed c = other-first c.args.bank.now c.is_sound.ensures.sound c.args.op c.args.x c.args.y c.args.part c.args.number c.requires.first c.requires.second c.requires.part c.requires.takes c.requires.typed c.in-0.is

pub with_arguments-requires-in-1-clause-typed : goal.with_arguments-requires-in-1-clause-typed
with_arguments-requires-in-1-clause-typed c = other-second c.args.bank.now c.is_sound.ensures.sound c.args.op c.args.x c.args.y c.args.part c.args.number c.requires.first c.requires.second c.requires.part c.requires.takes c.requires.typed c.in-1.is
