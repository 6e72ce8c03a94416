use Rattle.std.proofs.Common.{◌-◌, length}
use Rattle.leo_syntax.proofs.VariableLists.{Going}
use Rattle.leo_syntax.proofs.variables.variables.Given as goal

abbrev pub invariant-variables : goal.invariant-variables
invariant-variables l = Going l.source l.left l.fn.at l.at l.found

abbrev pub decreases-variables : goal.decreases-variables
decreases-variables l = length l.source.tokens.now - l.at
