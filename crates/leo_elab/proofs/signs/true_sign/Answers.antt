use Rattle.leo_elab.proofs.Standing.{true-made}
use Rattle.leo_elab.proofs.signs.true_sign.Goals as goal

pub returns-clause-made : goal.returns-clause-made
returns-clause-made c = true-made c.make_logic.ensures.grows c.in_ok-t.ensures.made
