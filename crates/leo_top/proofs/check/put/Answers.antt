use Rattle.leo_top.proofs.Judging.{whole_with, cut_with}
use Rattle.leo_top.proofs.check.put.Goals as goal

pub returns-in-Ok-clause-put : goal.returns-in-Ok-clause-put
returns-in-Ok-clause-put g c = whole_with c.with.ensures.status c.in-Ok.ensures.ok

pub returns-in-Err-clause-put : goal.returns-in-Err-clause-put
returns-in-Err-clause-put g c = cut_with c.with-in-Err.ensures.status c.in-Err.ensures.cut c.in-Err.ensures.failed
