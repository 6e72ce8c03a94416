use Rattle.leo_terms.proofs.CallerLemmas.{extends-itself}
use Rattle.para_rows.proofs.Ready.{recorded}
use Rattle.para_rows.proofs.asking.answered.Goals as goal

pub returns-then-not-is_typed-clause-grows : goal.returns-then-not-is_typed-clause-grows
returns-then-not-is_typed-clause-grows c = extends-itself c.is_sound.ensures.sound

pub returns-then-not-is_typed-2-clause-grows : goal.returns-then-not-is_typed-2-clause-grows
returns-then-not-is_typed-2-clause-grows c = extends-itself c.is_sound.ensures.sound

pub para-requires-clause-from : goal.para-requires-clause-from
para-requires-clause-from c = c.if-not-is_typed.ensures

pub para-requires-clause-into : goal.para-requires-clause-into
para-requires-clause-into c = c.if-not-is_typed-2.ensures

pub returns-clause-due : goal.returns-clause-due
returns-clause-due c = recorded c.para.new.bank c.in_ok-dues.dues (λ n d e. (c.in_ok-dues.ensures.due.each n d e).steps)
