use Rattle.leo_terms.proofs.CallerLemmas.{extends-itself}
use Rattle.conclude_rows.proofs.reading.logic_term.Goals as goal

pub returns-then-not-accepts-clause-grows : goal.returns-then-not-accepts-clause-grows
returns-then-not-accepts-clause-grows c = extends-itself c.is_sound.ensures.sound
