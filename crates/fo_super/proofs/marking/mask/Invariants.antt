use Rattle.std.proofs.Common.{◌≡◌, take}
use Rattle.fo_super.specs.Marks.{mask}
use Rattle.fo_super.proofs.marking.mask.Given as goal

abbrev pub invariant-loop-literal : goal.invariant-loop-literal
invariant-loop-literal l = l.mask ≡ mask (take l.literal-index l.literals)
