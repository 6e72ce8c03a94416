use Rattle.leo_kernel.proofs.Decomposing.{paired}
use Rattle.leo_kernel.proofs.decompose.pair.Goals as goal

pub returns-in-Some-Some-clause-reads : goal.returns-in-Some-Some-clause-reads
returns-in-Some-Some-clause-reads c = rw (c.in-Some-Some.is-0, c.in-Some-Some.is-1) (paired c.args.bank.now c.is_sound.ensures.sound c.in-Some-Some.left c.in-Some-Some.right (rw c.in-Some-Some.is-0 at c.requires.first))
