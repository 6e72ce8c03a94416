use Rattle.std.proofs.Common.{◌<◌, arith}
use Rattle.leo_terms.specs.Contents.{tree_at}
use Rattle.leo_kernel.proofs.ChosenSteps.{apart-missing}
use Rattle.leo_kernel.proofs.chosen_matching.into_argument.Goals as goal

pub returns-in-None-y : goal.returns-in-None-y
returns-in-None-y c =
    let p : c.in-Some.m < c.args.s = rw c.in-Some.is at c.requires.first in
    let q = c.requires.within in
    apart-missing c.args.bank.now c.is_sound.ensures.sound (tree_at c.args.bank.now c.args.s) (tree_at c.args.bank.now c.args.t) c.in-Some.m (omega arith) (rw (c.in-Some.is, c.in-None-y.is) at c.requires.leads)
