use Rattle.std.proofs.Common.{refl}
use Rattle.fo_super.proofs.Weighing.{named-so, weighed-right}
use Rattle.fo_super.proofs.turning.weighed_at.Goals as goal

pub returns-clause-weight : goal.returns-clause-weight
returns-clause-weight c = λ clauses n d e. weighed-right clauses c.args.passive.now (named-so c.args.weights.now clauses c.args.passive.now e c.requires.named) c.args.weights.now c.args.place _ e c.requires.place refl n d
