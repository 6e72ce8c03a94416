use Rattle.unify_rows.proofs.Pairs.{sigma-at}
use Rattle.unify_rows.proofs.telling.put_sigmas.Goals as goal

pub put_sigma-requires : goal.put_sigma-requires
put_sigma-requires g c = sigma-at c.args.bank.now c.args.found.now c.requires c.loop-sigma.sigma-index c.sigma-item.result c.loop-sigma-test.true c.sigma-item.is
