use Rattle.leo_terms.proofs.CallerLemmas.{extends-itself}
use Rattle.leo_kernel.proofs.chosen.claims_named.Goals as goal

pub returns-in_default-clause-grows : goal.returns-in_default-clause-grows
returns-in_default-clause-grows c = extends-itself c.is_sound.ensures.sound

pub returns-in_default-abbreviation-clause-grows : goal.returns-in_default-abbreviation-clause-grows
returns-in_default-abbreviation-clause-grows c = extends-itself c.is_sound.ensures.sound

pub returns-in-None-clause-grows : goal.returns-in-None-clause-grows
returns-in-None-clause-grows c = extends-itself c.is_sound.ensures.sound
