use Rattle.leo_terms.proofs.CallerLemmas.{extends-itself}
use Rattle.leo_unify.proofs.act.act_on_heads.Goals as goal

pub returns-in_err-found-clause-grows : goal.returns-in_err-found-clause-grows
returns-in_err-found-clause-grows c = extends-itself c.is_sound.ensures.sound

pub returns-then-clashes-clause-grows : goal.returns-then-clashes-clause-grows
returns-then-clashes-clause-grows c = extends-itself c.is_sound.ensures.sound

pub returns-in-Some-clause-grows : goal.returns-in-Some-clause-grows
returns-in-Some-clause-grows c = extends-itself c.is_sound.ensures.sound
