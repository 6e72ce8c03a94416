use Rattle.leo_terms.proofs.CallerLemmas.{extends-itself, extends-trans}
use Rattle.derive_rows.proofs.given.make_terms.Goals as goal

pub returns-then-hyps-lt2-clause-grows : goal.returns-then-hyps-lt2-clause-grows
returns-then-hyps-lt2-clause-grows c = extends-itself c.is_sound.ensures.sound

pub returns-in_err-first-clause-grows : goal.returns-in_err-first-clause-grows
returns-in_err-first-clause-grows c = extends-trans c.make_logic.ensures.grows (extends-trans c.make_logic-2.ensures.grows c.make_name.ensures.grows)

pub returns-in_err-second-clause-grows : goal.returns-in_err-second-clause-grows
returns-in_err-second-clause-grows c = extends-trans c.make_logic.ensures.grows (extends-trans c.make_logic-2.ensures.grows (extends-trans c.make_name.ensures.grows c.make_name-2.ensures.grows))

pub returns-clause-grows : goal.returns-clause-grows
returns-clause-grows c = extends-trans c.make_logic.ensures.grows (extends-trans c.make_logic-2.ensures.grows (extends-trans c.make_name.ensures.grows c.make_name-2.ensures.grows))
