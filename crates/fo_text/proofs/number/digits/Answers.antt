use Rattle.std.proofs.Common.{arith}
use Rattle.fo_text.proofs.NumberWords.{digits-more}
use Rattle.fo_text.proofs.number.digits.Goals as goal

pub loop-more-preserved : goal.loop-more-preserved
loop-more-preserved c =
    let x = c.in-Some.ensures.0 in
    let m = x.more_is in
    (digits-more c.args.first c.args.tail.now c.loop-more.value c.loop-more.rest.now c.in-Some.more c.in-Some.left.now c.loop-more.invariant.0 (omega (arith, c.in-Some.ensures.1)) x, omega (arith, x.low), c.in-Some.ensures.1)
