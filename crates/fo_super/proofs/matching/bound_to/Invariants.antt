use Rattle.std.proofs.Common.{take}
use Rattle.fo_super.specs.Matching.{IsUnbound}
use Rattle.fo_super.proofs.matching.bound_to.Given as goal

abbrev pub invariant-loop-binding : goal.invariant-loop-binding
invariant-loop-binding l = IsUnbound l.variable (take l.binding-index l.bindings)
