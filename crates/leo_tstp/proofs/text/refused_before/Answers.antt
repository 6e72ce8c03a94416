use Rattle.leo_terms.proofs.CallerLemmas.{extends-itself}
use Rattle.leo_tstp.proofs.text.refused_before.Goals as goal

pub returns-in-Err-Lexical-clause-grows : goal.returns-in-Err-Lexical-clause-grows
returns-in-Err-Lexical-clause-grows c = extends-itself c.is_sound.ensures.sound

pub returns-clause-grows : goal.returns-clause-grows
returns-clause-grows c = extends-itself c.is_sound.ensures.sound
