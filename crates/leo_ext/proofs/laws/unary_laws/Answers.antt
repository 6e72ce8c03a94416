use Rattle.leo_ext.proofs.Accepting.{accepted}
use Rattle.leo_ext.proofs.Pairing.{pairs-negative, some-lines}
use Rattle.leo_ext.proofs.laws.unary_laws.Goals as goal

pub returns : goal.returns
returns c = record {
  accepted = accepted;
  lines = some-lines;
  pairs = pairs-negative;
}
