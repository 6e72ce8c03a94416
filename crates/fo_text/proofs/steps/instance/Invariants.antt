use Rattle.std.proofs.Common.{◌≡◌, ◌++◌, length, true}
use Rattle.std.specs.Prelude.{decimal}
use Rattle.std.specs.List.{AllByRecursion}
use Rattle.fo_text.specs.Numbers.{may_end}
use Rattle.fo_text.specs.declared.number.Ends.TheVariants.{SpaceOrLine}
use Rattle.fo_text.specs.Answers.{IsWord}
use Rattle.fo_text.specs.AnswerSpellings.{word_text}
use Rattle.fo_text.proofs.NumberedLines.{parted}
use Rattle.fo_text.proofs.steps.instance.Given as goal

abbrev pub invariant-loop-tail : goal.invariant-loop-tail
invariant-loop-tail l = (l.input ≡ decimal l.parent ++ (parted 32 word_text l.words ++ l.rest)) × AllByRecursion IsWord l.words × (may_end SpaceOrLine 0 l.rest ≡ true)

abbrev pub decreases-loop-tail : goal.decreases-loop-tail
decreases-loop-tail l = length l.rest
