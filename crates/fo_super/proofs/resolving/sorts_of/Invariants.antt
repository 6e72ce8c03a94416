use Rattle.std.proofs.Common.{◌≡◌, length}
use Rattle.fo_text.specs.Problems.{AreSorts}
use Rattle.fo_super.proofs.resolving.sorts_of.Given as goal

abbrev pub invariant-loop-name : goal.invariant-loop-name
invariant-loop-name l = AreSorts l.sorts l.list × (length l.list ≡ l.name-index)
