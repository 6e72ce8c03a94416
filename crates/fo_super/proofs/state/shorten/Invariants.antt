use Rattle.std.proofs.Common.{◌≡◌, ◌+◌, take, length}
use Rattle.fo_super.proofs.state.shorten.Given as goal

abbrev pub invariant-loop : goal.invariant-loop
invariant-loop g l = (take l.count l.items ≡ take l.count l.initial.items) × (length l.items + l.counter ≡ length l.initial.items + l.count)
