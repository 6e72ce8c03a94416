use Rattle.leo_terms.proofs.CallerLemmas.{extends-itself}
use Rattle.leo_unify.proofs.state.given_at.Goals as goal

pub returns-in_default-clause-grows : goal.returns-in_default-clause-grows
returns-in_default-clause-grows c = extends-itself c.is_sound.ensures.sound

pub returns-then-fitting-number-clause-grows : goal.returns-then-fitting-number-clause-grows
returns-then-fitting-number-clause-grows c = extends-itself c.is_sound.ensures.sound
