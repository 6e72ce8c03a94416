use Rattle.std.proofs.Common.{◌≡◌, ◌++◌, drop}
use Rattle.leo_elab.specs.Pairs.{beyond}
use Rattle.leo_elab.specs.Typings.{first_typings}
use Rattle.leo_elab.proofs.firsts.first_typings.Given as goal

abbrev pub invariant-loop-typing : goal.invariant-loop-typing
invariant-loop-typing l = l.found ++ beyond l.found (first_typings (drop l.typing-index l.typings)) ≡ first_typings l.typings
