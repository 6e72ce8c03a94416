use Rattle.fo_super.proofs.OneTurn.{turns-same}
use Rattle.fo_super.proofs.laws.turn_laws.Goals as goal

pub returns : goal.returns
returns c = turns-same
