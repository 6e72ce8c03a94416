use Rattle.leo_terms.proofs.CallerLemmas.{extends-itself, type_number-within}
use Rattle.leo_unify.proofs.cover.rebound_index.Goals as goal

pub returns-then-index-depth-clause-grows : goal.returns-then-index-depth-clause-grows
returns-then-index-depth-clause-grows c = extends-itself c.is_sound.ensures.sound

pub returns-in_default-clause-grows : goal.returns-in_default-clause-grows
returns-in_default-clause-grows c = extends-itself c.is_sound.ensures.sound

pub returns-in_default-checked_add-clause-grows : goal.returns-in_default-checked_add-clause-grows
returns-in_default-checked_add-clause-grows c = extends-itself c.is_sound.ensures.sound

pub make_bound-requires : goal.make_bound-requires
make_bound-requires c = rw c.type_of-ty.ensures.number (type_number-within c.is_sound.ensures.sound c.args.t c.requires.within)
