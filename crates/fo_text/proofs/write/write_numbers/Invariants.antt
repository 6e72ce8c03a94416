use Rattle.std.proofs.Common.{◌≡◌, ◌++◌, take}
use Rattle.fo_text.specs.Words.{numbers_text}
use Rattle.fo_text.proofs.write.write_numbers.Given as goal

abbrev pub invariant-loop-number : goal.invariant-loop-number
invariant-loop-number l = l.out.items ≡ l.fn.out.items ++ numbers_text (take l.number-index l.numbers)
