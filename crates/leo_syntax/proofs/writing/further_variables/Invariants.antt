use Rattle.std.proofs.Common.{◌≡◌, ◌++◌, drop}
use Rattle.leo_syntax.specs.Texts.{further_variables}
use Rattle.leo_syntax.proofs.writing.further_variables.Given as goal

abbrev pub invariant-loop-found : goal.invariant-loop-found
invariant-loop-found l = l.out.items ++ further_variables (drop l.found-index l.list) ≡ l.fn.out.items ++ further_variables l.list
