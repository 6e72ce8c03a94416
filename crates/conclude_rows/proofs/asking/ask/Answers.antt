use Rattle.leo_terms.proofs.CallerLemmas.{extends-itself, extends-trans}
use Rattle.conclude_rows.proofs.asking.ask.Goals as goal

pub returns-in_err-found-clause-grows : goal.returns-in_err-found-clause-grows
returns-in_err-found-clause-grows c = extends-trans c.clause_of.ensures.grows c.concluded.ensures.grows

pub returns-clause-grows : goal.returns-clause-grows
returns-clause-grows c = extends-trans c.clause_of.ensures.grows c.concluded.ensures.grows

pub returns-in_default-clause-grows : goal.returns-in_default-clause-grows
returns-in_default-clause-grows c = extends-itself c.is_sound.ensures.sound

pub returns-in_default-parse-clause-grows : goal.returns-in_default-parse-clause-grows
returns-in_default-parse-clause-grows c = extends-itself c.is_sound.ensures.sound

pub returns-in_err-numbers-clause-grows : goal.returns-in_err-numbers-clause-grows
returns-in_err-numbers-clause-grows c = extends-itself c.is_sound.ensures.sound
