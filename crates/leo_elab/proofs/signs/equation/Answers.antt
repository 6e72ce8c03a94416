use Rattle.leo_terms.proofs.CallerLemmas.{type_number-within}
use Rattle.leo_elab.proofs.Standing.{equation-made}
use Rattle.leo_elab.proofs.signs.equation.Goals as goal

pub make_logic-requires-clause-type_within : goal.make_logic-requires-clause-type_within
make_logic-requires-clause-type_within c = rw c.type_of-ty.ensures.number (type_number-within c.is_sound.ensures.sound c.args.t c.requires.left)

pub returns-clause-made : goal.returns-clause-made
returns-clause-made c = equation-made c.make_logic.ensures.grows (rw c.type_of-ty.ensures.number at c.in_ok-r.ensures.made)
