use Rattle.leo_clausify.proofs.Banks.{valued-made}
use Rattle.leo_clausify.proofs.literals.valued.Goals as goal

pub returns-clause-made : goal.returns-clause-made
returns-clause-made c = valued-made c.truth.ensures.grows c.args.a c.in_ok-right.right c.args.value c.requires c.in_ok-right.ensures.made
