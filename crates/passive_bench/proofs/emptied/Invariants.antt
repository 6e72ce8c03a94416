use Rattle.std.proofs.Common.{◌≤◌}
use Rattle.passive_bench.proofs.emptied.Given as goal

abbrev pub invariant-loop-turn : goal.invariant-loop-turn
invariant-loop-turn l = l.taken ≤ l.turn
