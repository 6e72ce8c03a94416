use Rattle.std.proofs.Common.{◌≡◌, take}
use Rattle.fo_super.proofs.state.literal_copies.Given as goal

abbrev pub invariant-loop-literal : goal.invariant-loop-literal
invariant-loop-literal l = l.copies ≡ take l.literal-index l.literals
