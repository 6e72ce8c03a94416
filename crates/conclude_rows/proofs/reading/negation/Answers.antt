use Rattle.leo_terms.proofs.CallerLemmas.{extends-itself}
use Rattle.conclude_rows.proofs.Ready.{are_ready-later}
use Rattle.conclude_rows.proofs.reading.negation.Goals as goal

pub returns-in_default-clause-grows : goal.returns-in_default-clause-grows
returns-in_default-clause-grows c = extends-itself c.is_sound.ensures.sound

pub returns-in_err-made-clause-rest : goal.returns-in_err-made-clause-rest
returns-in_err-made-clause-rest c = are_ready-later c.logic_term.ensures.grows c.popped.new.stack c.popped.ensures.rest

pub returns-clause-rest : goal.returns-clause-rest
returns-clause-rest c = are_ready-later c.logic_term.ensures.grows c.popped.new.stack c.popped.ensures.rest
