use Rattle.leo_para.proofs.Accepting.{accepted}
use Rattle.leo_para.proofs.Adding.{no-base, no-symbol}
use Rattle.leo_para.proofs.laws.due_laws.Goals as goal

pub returns : goal.returns
returns c = record { accepted = accepted; symbols = no-symbol; bases = no-base }
