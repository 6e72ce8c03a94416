use Rattle.std.proofs.Common.{ℕ, ◌≡◌, ◌++◌, ◌∷◌, List, length, true}
use Rattle.std.specs.Prelude.{decimal}
use Rattle.fo_text.specs.Numbers.{may_end}
use Rattle.fo_text.specs.declared.number.Ends.TheVariants.{DotOrLine}
use Rattle.fo_text.specs.AnswerReads.{IsPath}
use Rattle.fo_text.proofs.NumberedLines.{parted}
use Rattle.fo_text.proofs.words.numbers.Given as goal

abbrev pub invariant-loop-tail : goal.invariant-loop-tail
invariant-loop-tail l = (ns : List ℕ) × (l.list ≡ l.first ∷ ns) × (l.input ≡ decimal l.first ++ (parted 46 decimal ns ++ l.rest)) × IsPath ns × (may_end DotOrLine 0 l.rest ≡ true)

abbrev pub decreases-loop-tail : goal.decreases-loop-tail
decreases-loop-tail l = length l.rest
