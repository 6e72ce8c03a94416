use Rattle.leo_terms.proofs.CallerLemmas.{extends-itself}
use Rattle.leo_tstp.proofs.Built.{built-one}
use Rattle.leo_tstp.proofs.building.making.with_one.Goals as goal

pub returns-then-not-accepts-clause-grows : goal.returns-then-not-accepts-clause-grows
returns-then-not-accepts-clause-grows c = extends-itself c.is_sound.ensures.sound

pub returns-clause-built : goal.returns-clause-built
returns-clause-built c = built-one c.make_logic.ensures.grows c.in_ok-t.ensures.made
