use Rattle.leo_terms.proofs.CallerLemmas.{extends-itself}
use Rattle.leo_unify.proofs.act.act_on_flex.Goals as goal

pub returns-then-left-right-clause-grows : goal.returns-then-left-right-clause-grows
returns-then-left-right-clause-grows c = extends-itself c.is_sound.ensures.sound
