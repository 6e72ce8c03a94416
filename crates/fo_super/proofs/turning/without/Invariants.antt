use Rattle.std.proofs.Common.{◌≡◌, take}
use Rattle.fo_super.specs.Passives.{without}
use Rattle.fo_super.proofs.turning.without.Given as goal

abbrev pub invariant-loop-number : goal.invariant-loop-number
invariant-loop-number l = l.others ≡ without l.given (take l.number-index l.numbers)
