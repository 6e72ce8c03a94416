use Rattle.leo_terms.proofs.CallerLemmas.{extends-itself}
use Rattle.conclude_rows.proofs.reading.symbol.Goals as goal

pub returns-in_default-clause-grows : goal.returns-in_default-clause-grows
returns-in_default-clause-grows c = extends-itself c.is_sound.ensures.sound
