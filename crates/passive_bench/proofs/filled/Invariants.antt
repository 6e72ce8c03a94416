use Rattle.std.proofs.Common.{◌≡◌, length}
use Rattle.leo_passive.specs.Entries.{AreBelow}
use Rattle.passive_bench.proofs.filled.Given as goal

abbrev pub invariant-loop-number : goal.invariant-loop-number
invariant-loop-number l = AreBelow l.number l.passive × (length l.passive ≡ l.number)
