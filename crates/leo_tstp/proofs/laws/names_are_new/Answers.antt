use Rattle.leo_tstp.proofs.Prefixes.{first-free}
use Rattle.leo_tstp.proofs.laws.names_are_new.Goals as goal

pub returns : goal.returns
returns c = first-free
