use Rattle.leo_terms.proofs.CallerLemmas.{extends-itself, type_number-within}
use Rattle.conclude_rows.proofs.Ready.{are_ready-later}
use Rattle.conclude_rows.proofs.reading.equation.Goals as goal

pub returns-in_default-clause-grows : goal.returns-in_default-clause-grows
returns-in_default-clause-grows c = extends-itself c.is_sound.ensures.sound

pub returns-in_default-popped-clause-grows : goal.returns-in_default-popped-clause-grows
returns-in_default-popped-clause-grows c = extends-itself c.is_sound.ensures.sound

pub logic_term-requires-clause-type_within : goal.logic_term-requires-clause-type_within
logic_term-requires-clause-type_within c = rw c.type_of-ty.ensures.number (type_number-within c.is_sound.ensures.sound c.in-Some-popped.left c.in-Some-popped.ensures.term.within)

pub returns-in_err-made-clause-rest : goal.returns-in_err-made-clause-rest
returns-in_err-made-clause-rest c = are_ready-later c.logic_term.ensures.grows c.popped-2.new.stack c.popped-2.ensures.rest

pub returns-clause-rest : goal.returns-clause-rest
returns-clause-rest c = are_ready-later c.logic_term.ensures.grows c.popped-2.new.stack c.popped-2.ensures.rest
