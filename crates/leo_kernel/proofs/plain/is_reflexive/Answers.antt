use Rattle.std.proofs.Common.{sym}
use Rattle.leo_kernel.proofs.PlainRules.{reflexive}
use Rattle.leo_kernel.proofs.plain.is_reflexive.Goals as goal

pub returns-then-lit : goal.returns-then-lit
returns-then-lit c = reflexive c.args.bank.now c.is_sound.ensures.sound c.args.step.now.lits c.in-Some.lit c.requires.literals_of (rw c.as_slice.ensures at (sym c.in-Some.ensures)) c.if-lit.true c.eq.result c.eq.ensures
