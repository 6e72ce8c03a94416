use Rattle.leo_terms.proofs.CallerLemmas.{extends-itself}
use Rattle.leo_tstp.proofs.text.steps_of.Goals as goal

pub hypotheses-requires : goal.hypotheses-requires
hypotheses-requires c = rw c.as_slice.ensures c.requires.problem.closed

pub returns-in_err-namer-clause-grows : goal.returns-in_err-namer-clause-grows
returns-in_err-namer-clause-grows c = extends-itself c.is_sound.ensures.sound

pub returns-in_err-hypotheses-clause-grows : goal.returns-in_err-hypotheses-clause-grows
returns-in_err-hypotheses-clause-grows c = extends-itself c.is_sound.ensures.sound
