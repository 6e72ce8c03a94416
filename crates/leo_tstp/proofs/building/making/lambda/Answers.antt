use Rattle.leo_tstp.proofs.Built.{built-lam}
use Rattle.leo_tstp.proofs.building.making.lambda.Goals as goal

pub returns-clause-built : goal.returns-clause-built
returns-clause-built c = built-lam c.make_lam.ensures.grows c.args.ty c.in_ok-t.ensures.made
