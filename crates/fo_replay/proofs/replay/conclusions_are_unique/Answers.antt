use Rattle.fo_replay.proofs.Unique.{conclusions_same}
use Rattle.fo_replay.proofs.replay.conclusions_are_unique.Goals as goal

pub returns : goal.returns
returns c = conclusions_same
