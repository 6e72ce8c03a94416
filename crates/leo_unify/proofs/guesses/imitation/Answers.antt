use Rattle.leo_terms.proofs.CallerLemmas.{extends-itself}
use Rattle.leo_unify.proofs.guesses.imitation.Goals as goal

pub returns-then-not-is_constant-clause-grows : goal.returns-then-not-is_constant-clause-grows
returns-then-not-is_constant-clause-grows c = extends-itself c.is_sound.ensures.sound
