use Rattle.std.proofs.Common.{refl}
use Rattle.fo_prove.specs.Proving.{bad, unread, worked}
use Rattle.fo_prove.proofs.top.answer.Goals as goal

pub returns-in-Ok : goal.returns-in-Ok
returns-in-Ok g c = worked c.in-Ok.problem c.in-Ok.ensures.read.0 c.in-Ok.ensures.read.1 c.run.ensures

pub returns-in-Err-Bad : goal.returns-in-Err-Bad
returns-in-Err-Bad g c = rw (c.bad.ensures, c.in-Err-Bad.field-0-is) (bad c.in-Err-Bad.byte (rw c.in-Err-Bad.field-0-is at c.in-Err-Bad.ensures.refused) refl)

pub returns-in-Err-Memory : goal.returns-in-Err-Memory
returns-in-Err-Memory g c = unread refl
