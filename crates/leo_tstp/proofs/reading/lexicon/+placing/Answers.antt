use Rattle.std.proofs.Common.{arith, rules}
use Rattle.leo_terms.proofs.CallerLemmas.{arrow-parts}
use Rattle.leo_tstp.proofs.reading.lexicon.+placing.Goals as goal

pub type_place-arrow_place-requires : goal.type_place-arrow_place-requires
type_place-arrow_place-requires t c = let p = arrow-parts c.in-Arrow.ensures.sound (record { arrow_node = c.in-Arrow.ensures.view }) in (search rules, (omega arith, (omega arith, c.requires.known)))
