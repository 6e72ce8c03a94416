use Rattle.std.proofs.Common.{◌≡◌, ◌++◌, drop}
use Rattle.leo_syntax.specs.Texts.{further_names}
use Rattle.leo_syntax.proofs.listing.further_names.Given as goal

abbrev pub invariant-loop-found : goal.invariant-loop-found
invariant-loop-found l = l.out.items ++ further_names (drop l.found-index l.list) ≡ l.fn.out.items ++ further_names l.list
