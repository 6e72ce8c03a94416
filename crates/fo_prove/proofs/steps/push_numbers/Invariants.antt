use Rattle.std.proofs.Common.{◌≡◌, ◌++◌, map, take}
use Rattle.fo_text.specs.declared.answer.FoWord.TheVariants as word
use Rattle.fo_prove.proofs.steps.push_numbers.Given as goal

abbrev pub invariant-loop-number : goal.invariant-loop-number
invariant-loop-number l = l.words ≡ l.initial.words ++ map word.Number (take l.number-index l.numbers)
