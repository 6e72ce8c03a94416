use Rattle.std.proofs.Common.{arith}
use Rattle.leo_unify.proofs.Growing.{pairs-of-end}
use Rattle.leo_unify.proofs.pairs.+paired.Goals as goal

pub returns-in_ok-push-in-Some-front-clause-within : goal.returns-in_ok-push-in-Some-front-clause-within
returns-in_ok-push-in-Some-front-clause-within m c =
    let p = c.in-Some-application_of.ensures.argument in
    let q = c.in-Some-application_of-2.ensures.argument in
    let l = c.requires.left in
    let r = c.requires.right in
    rw c.in_ok-push-in-Some-front.ensures.ok (pairs-of-end c.args.bank.now c.in-Some-front.pairs _ (rw c.in-Some-front.is at c.in_ok-front-in-Some-application_of-2.ensures.within) (omega arith) (omega arith))
