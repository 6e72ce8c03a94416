use Rattle.leo_terms.proofs.CallerLemmas.{extends-itself}
use Rattle.leo_tstp.proofs.Built.{built-app}
use Rattle.leo_tstp.proofs.building.making.applied.Goals as goal

pub returns-then-not-is_applicable-clause-grows : goal.returns-then-not-is_applicable-clause-grows
returns-then-not-is_applicable-clause-grows c = extends-itself c.is_sound.ensures.sound

pub returns-clause-built : goal.returns-clause-built
returns-clause-built c = built-app c.make_app.ensures.grows c.in_ok-t.ensures.made
