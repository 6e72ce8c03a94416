use Rattle.leo_terms.proofs.CallerLemmas.{extends-itself}
use Rattle.conclude_rows.proofs.asking.clause_of.Goals as goal

pub returns-in_err-words-clause-grows : goal.returns-in_err-words-clause-grows
returns-in_err-words-clause-grows c = extends-itself c.is_sound.ensures.sound

pub returns-clause-grows : goal.returns-clause-grows
returns-clause-grows c = extends-itself c.is_sound.ensures.sound
