use Rattle.std.proofs.Common.{◌≡◌, ◌++◌, length, true, ◌<◌, ◌^◌}
use Rattle.std.specs.Prelude.{decimal}
use Rattle.fo_text.specs.Words.{numbers_text}
use Rattle.fo_text.specs.Problems.{AreSorts}
use Rattle.fo_text.specs.Numbers.{may_end}
use Rattle.fo_text.specs.declared.number.Ends.TheVariants.{SpaceOrLine}
use Rattle.fo_text.proofs.symbols.symbol.Given as goal

abbrev pub invariant-loop-tail : goal.invariant-loop-tail
invariant-loop-tail l = (l.input ≡ decimal l.result_sort ++ (numbers_text l.args ++ l.rest)) × AreSorts l.sorts l.args × (may_end SpaceOrLine 0 l.rest ≡ true) × (length l.args < 2 ^ 32)

abbrev pub decreases-loop-tail : goal.decreases-loop-tail
decreases-loop-tail l = length l.rest
