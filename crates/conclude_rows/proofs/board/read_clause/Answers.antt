use Rattle.leo_terms.proofs.CallerLemmas.{extends-itself}
use Rattle.conclude_rows.proofs.Ready.{types-later}
use Rattle.conclude_rows.proofs.board.read_clause.Goals as goal

pub returns-in_err-vars-clause-grows : goal.returns-in_err-vars-clause-grows
returns-in_err-vars-clause-grows c = extends-itself c.is_sound.ensures.sound

pub returns-in-Some-clause-clause : goal.returns-in-Some-clause-clause
returns-in-Some-clause-clause c = record { types_of = types-later c.literals.ensures.grows c.in_ok-vars.vars c.in_ok-vars.ensures; literals_of = rw c.in-Some.is at c.in_ok-read.ensures.literals }
