use Rattle.leo_terms.proofs.CallerLemmas.{extends-itself}
use Rattle.leo_elab.proofs.Standing.{takes-body}
use Rattle.leo_elab.proofs.signs.bound.Goals as goal

pub returns-in_ok-r-clause-made : goal.returns-in_ok-r-clause-made
returns-in_ok-r-clause-made c = λ s m a b i h. (takes-body c.args.binder c.is_sound.ensures.sound (c.takes.ensures.yes c.if-takes.true) h, c.in_ok-r.ensures.made s m a b i h)

pub returns-else-takes-clause-grows : goal.returns-else-takes-clause-grows
returns-else-takes-clause-grows c = extends-itself c.is_sound.ensures.sound
