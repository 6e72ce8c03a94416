use Rattle.leo_terms.proofs.CallerLemmas.{type_number-within}
use Rattle.leo_tstp.proofs.building.terms.equated.Goals as goal

pub with_two-requires-clause-op : goal.with_two-requires-clause-op
with_two-requires-clause-op c = rw c.type_of-ty.ensures.number (type_number-within c.type_of-ty.ensures.sound c.args.x c.requires.first)
