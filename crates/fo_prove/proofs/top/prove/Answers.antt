use Rattle.std.proofs.Common.{refl}
use Rattle.fo_prove.specs.Proving.{read, read_fault, no_memory}
use Rattle.fo_prove.proofs.top.prove.Goals as goal

pub returns-in-Ok-clause-proved : goal.returns-in-Ok-clause-proved
returns-in-Ok-clause-proved g c = rw c.with.ensures.status (read c.in-Ok.text.items c.in-Ok.ensures.read (rw c.deref.ensures.value at c.answer.ensures))

pub returns-in-Err-Fault-clause-proved : goal.returns-in-Err-Fault-clause-proved
returns-in-Err-Fault-clause-proved g c = rw c.with-in-Err-Fault.ensures.status (read_fault (rw c.in-Err-Fault.field-0-is at c.in-Err-Fault.ensures.failed) refl)

pub returns-in-Err-Memory-clause-proved : goal.returns-in-Err-Memory-clause-proved
returns-in-Err-Memory-clause-proved g c = rw c.with-in-Err-Memory.ensures.status (no_memory refl)
