use Rattle.fo_prove.proofs.Deriving.{sound_of}
use Rattle.fo_prove.proofs.Working.{ended, wants_memory}
use Rattle.fo_prove.proofs.running.step.Goals as goal

pub ending-requires-clause-sound : goal.ending-requires-clause-sound
ending-requires-clause-sound g c = sound_of c.args.state.now c.requires.problem c.requires.run

pub returns-in-Ok-Some-clause-stepped : goal.returns-in-Ok-Some-clause-stepped
returns-in-Ok-Some-clause-stepped g c = λ before so. ended before _ _ so (rw c.in-Ok-Some.field-0-is at c.in-Ok-Some.ensures) (rw c.deref.ensures.value at c.put_end.ensures.put)

pub returns-in-Err-clause-stepped : goal.returns-in-Err-clause-stepped
returns-in-Err-clause-stepped g c = λ before so. wants_memory before _ so
