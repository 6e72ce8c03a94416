use Rattle.std.proofs.Common.{arith}
use Rattle.leo_unify.proofs.Growing.{types-end}
use Rattle.leo_unify.proofs.BodySteps.{domain-next}
use Rattle.leo_unify.proofs.heads.domains.Goals as goal

pub loop-function-preserved : goal.loop-function-preserved
loop-function-preserved c =
    let l = c.loop-function.invariant.0 in
    let p = c.in-Some.ensures.from in
    let q = c.in-Some.ensures.to in
    (omega arith, rw c.in_ok-push.ensures.ok (types-end c.args.bank.now c.loop-function.taken c.in-Some.function.from c.loop-function.invariant.1 (omega arith)), rw c.in_ok-push.ensures.ok (domain-next c.args.bank.now c.loop-function.part c.in-Some.function.from c.in-Some.function.to c.loop-function.taken _ c.in-Some.ensures.value c.loop-function.invariant.2))
