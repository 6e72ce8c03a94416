use Rattle.leo_kernel.proofs.PlainRules.{terms-decide}
use Rattle.leo_kernel.proofs.TopTests.{some-missing, none-missing}
use Rattle.leo_kernel.proofs.replacing.is_same_argument.Goals as goal

pub returns-in-Some-y : goal.returns-in-Some-y
returns-in-Some-y c = rw (c.in-Some.is, c.in-Some-y.is) (terms-decide c.args.bank.now c.is_sound.ensures.sound c.in-Some.s c.in-Some-y.t (rw c.in-Some.is at c.requires.first) (rw c.in-Some-y.is at c.requires.second) c.eq.result c.eq.ensures)

pub returns-in-None-y : goal.returns-in-None-y
returns-in-None-y c = rw (c.in-Some.is, c.in-None-y.is) (some-missing c.args.bank.now c.is_sound.ensures.sound c.in-Some.s (rw c.in-Some.is at c.requires.first))

pub returns-in-None : goal.returns-in-None
returns-in-None c = rw (c.in-None.is) (none-missing c.args.bank.now c.is_sound.ensures.sound c.args.y c.requires.second c.is_none.result c.is_none.ensures)
