use Rattle.fo_prove.specs.Endings.{whole, cut}
use Rattle.fo_prove.proofs.running.put_end.Goals as goal

pub returns-in-Ok-clause-put : goal.returns-in-Ok-clause-put
returns-in-Ok-clause-put g c = whole c.in-Ok.ensures.ok

pub returns-in-Err-clause-put : goal.returns-in-Err-clause-put
returns-in-Err-clause-put g c = cut c.in-Err.ensures.cut c.in-Err.ensures.failed
