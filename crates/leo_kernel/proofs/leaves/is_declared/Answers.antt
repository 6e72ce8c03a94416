use Rattle.std.proofs.Common.{sym}
use Rattle.leo_kernel.proofs.Numbers.{declared-type, undeclared}
use Rattle.leo_kernel.proofs.leaves.is_declared.Goals as goal

pub returns-then-place-vars : goal.returns-then-place-vars
returns-then-place-vars c = declared-type c.args.bank.now c.is_sound.ensures.sound c.args.vars.now c.requires.vars c.args.number c.args.ty c.index-vars-place.result c.if-place-vars.true c.index-vars-place.is c.requires.ty c.eq.result c.eq.ensures

pub returns-else-place-vars : goal.returns-else-place-vars
returns-else-place-vars c = sym (undeclared c.args.bank.now c.args.vars.now c.args.number _ c.if-place-vars.false)
