use Rattle.leo_elab.proofs.Standing.{false-made}
use Rattle.leo_elab.proofs.signs.false_sign.Goals as goal

pub returns-clause-made : goal.returns-clause-made
returns-clause-made c = false-made c.make_logic.ensures.grows c.in_ok-t.ensures.made
