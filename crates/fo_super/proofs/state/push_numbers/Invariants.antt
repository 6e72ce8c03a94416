use Rattle.std.proofs.Common.{◌≡◌, ◌++◌, ◌-◌}
use Rattle.fo_super.specs.Turns.{numbers_from}
use Rattle.fo_super.proofs.state.push_numbers.Given as goal

abbrev pub invariant-loop-number : goal.invariant-loop-number
invariant-loop-number l = l.numbers ≡ l.fn.numbers ++ numbers_from l.from (l.number - l.from)
