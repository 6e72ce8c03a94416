use Rattle.leo_elab.proofs.Standing.{not-made}
use Rattle.leo_elab.proofs.signs.negated.Goals as goal

pub returns-clause-made : goal.returns-clause-made
returns-clause-made c = not-made c.make_logic.ensures.grows c.in_ok-r.ensures.made
