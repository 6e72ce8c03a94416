use Rattle.leo_terms.proofs.CallerLemmas.{extends-itself, type_number-within}
use Rattle.leo_tstp.proofs.Learned.{known-kept}
use Rattle.leo_tstp.proofs.reading.lexicon.learn_symbol.Goals as goal

pub returns-then-contains-clause-grows : goal.returns-then-contains-clause-grows
returns-then-contains-clause-grows c = extends-itself c.is_sound.ensures.sound

pub type_place-requires-clause-type_of : goal.type_place-requires-clause-type_of
type_place-requires-clause-type_of c = rw c.type_of-ty.ensures.number (type_number-within c.type_of-ty.ensures.sound _ c.in_ok-term.ensures.made.within)

pub type_place-requires-clause-known : goal.type_place-requires-clause-known
type_place-requires-clause-known c = known-kept c.make_sym.ensures.grows c.requires.known
