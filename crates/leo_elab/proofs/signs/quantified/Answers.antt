use Rattle.leo_terms.proofs.CallerLemmas.{extends-itself}
use Rattle.leo_elab.proofs.Standing.{quantified-made}
use Rattle.leo_elab.proofs.signs.quantified.Goals as goal

pub returns-in_ok-r-in-Some-clause-made : goal.returns-in_ok-r-in-Some-clause-made
returns-in_ok-r-in-Some-clause-made c = quantified-made c.args.quantifier c.in-Some.element c.is_sound.ensures.sound c.in-Some.ensures.found c.in_ok-r-in-Some.ensures.made

pub returns-in-None-clause-grows : goal.returns-in-None-clause-grows
returns-in-None-clause-grows c = extends-itself c.is_sound.ensures.sound
