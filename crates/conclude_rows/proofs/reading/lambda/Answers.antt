use Rattle.leo_terms.proofs.CallerLemmas.{extends-itself}
use Rattle.conclude_rows.proofs.Ready.{are_ready-later, thing-reads}
use Rattle.conclude_rows.proofs.reading.lambda.Goals as goal

pub returns-in_default-clause-grows : goal.returns-in_default-clause-grows
returns-in_default-clause-grows c = extends-itself c.is_sound.ensures.sound

pub make_lam-requires-clause-typed : goal.make_lam-requires-clause-typed
make_lam-requires-clause-typed c = rw (c.thing.ensures, thing-reads c.args.bank.now c.is_sound.ensures.sound) (c.in-Some.ensures.term.indices 0)

pub returns-in_err-made-clause-rest : goal.returns-in_err-made-clause-rest
returns-in_err-made-clause-rest c = are_ready-later c.make_lam.ensures.grows c.popped.new.stack c.popped.ensures.rest

pub returns-clause-rest : goal.returns-clause-rest
returns-clause-rest c = are_ready-later c.make_lam.ensures.grows c.popped.new.stack c.popped.ensures.rest
