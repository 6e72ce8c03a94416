use Rattle.leo_terms.proofs.CallerLemmas.{extends-itself}
use Rattle.leo_unify.proofs.act.guessed.Goals as goal

pub returns-then-depth-eq0-clause-grows : goal.returns-then-depth-eq0-clause-grows
returns-then-depth-eq0-clause-grows c = extends-itself c.is_sound.ensures.sound

pub returns-in_err-outer-clause-grows : goal.returns-in_err-outer-clause-grows
returns-in_err-outer-clause-grows c = extends-itself c.is_sound.ensures.sound

pub returns-then-len-gt-FEW-clause-grows : goal.returns-then-len-gt-FEW-clause-grows
returns-then-len-gt-FEW-clause-grows c = extends-itself c.is_sound.ensures.sound

pub returns-in_default-clause-grows : goal.returns-in_default-clause-grows
returns-in_default-clause-grows c = extends-itself c.is_sound.ensures.sound
