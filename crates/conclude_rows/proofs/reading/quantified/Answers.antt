use Rattle.std.proofs.Common.{arith}
use Rattle.leo_terms.proofs.CallerLemmas.{extends-itself, type_number-within, arrow-parts}
use Rattle.conclude_rows.proofs.Ready.{are_ready-later}
use Rattle.conclude_rows.proofs.reading.quantified.Goals as goal

pub returns-in_default-clause-grows : goal.returns-in_default-clause-grows
returns-in_default-clause-grows c = extends-itself c.is_sound.ensures.sound

pub view_ty-requires : goal.view_ty-requires
view_ty-requires c = rw c.type_of-function.ensures.number (type_number-within c.is_sound.ensures.sound c.in-Some.property c.in-Some.ensures.term.within)

pub logic_term-requires-clause-type_within : goal.logic_term-requires-clause-type_within
logic_term-requires-clause-type_within c = let p = arrow-parts c.is_sound.ensures.sound (record { arrow_node = c.in-Arrow.ensures.view }) in let k = p.0 in let m = p.1 in c.with_type-op.ensures _ (omega arith)

pub returns-in_err-made-in-Arrow-clause-rest : goal.returns-in_err-made-in-Arrow-clause-rest
returns-in_err-made-in-Arrow-clause-rest c = are_ready-later c.logic_term.ensures.grows c.popped.new.stack c.popped.ensures.rest

pub returns-in_ok-made-in-Arrow-clause-rest : goal.returns-in_ok-made-in-Arrow-clause-rest
returns-in_ok-made-in-Arrow-clause-rest c = are_ready-later c.logic_term.ensures.grows c.popped.new.stack c.popped.ensures.rest

pub returns-in-Base-clause-grows : goal.returns-in-Base-clause-grows
returns-in-Base-clause-grows c = extends-itself c.is_sound.ensures.sound
