use Rattle.leo_top.proofs.Answering.{whole_with, cut_with}
use Rattle.leo_top.proofs.alone.written.Goals as goal

pub returns-in-Ok-clause-written : goal.returns-in-Ok-clause-written
returns-in-Ok-clause-written g c = whole_with c.with.ensures.status c.in-Ok.ensures.ok

pub returns-in-Err-clause-written : goal.returns-in-Err-clause-written
returns-in-Err-clause-written g c = cut_with c.with-in-Err.ensures.status c.in-Err.ensures.cut c.in-Err.ensures.failed
