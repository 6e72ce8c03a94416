use Rattle.std.proofs.Common.{◌%◌}
use Rattle.passive_bench.proofs.Below.{below-more, one-more}
use Rattle.passive_bench.proofs.filled.Goals as goal

pub loop-number-preserved : goal.loop-number-preserved
loop-number-preserved c =
    rw c.in_ok-add.ensures (
      below-more c.loop-number.number (c.loop-number.number % 513) c.loop-number.passive c.loop-number.invariant.0,
      one-more c.loop-number.number (record { number = c.loop-number.number; weight = c.loop-number.number % 513 }) c.loop-number.passive c.loop-number.invariant.1,
    )
