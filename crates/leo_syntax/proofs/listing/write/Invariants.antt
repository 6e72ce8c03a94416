use Rattle.std.proofs.Common.{◌≡◌, ◌++◌, drop}
use Rattle.leo_syntax.specs.Texts.{list_written}
use Rattle.leo_syntax.proofs.listing.write.Given as goal

abbrev pub invariant-loop-found : goal.invariant-loop-found
invariant-loop-found l = l.out.items ++ list_written (drop l.found-index l.list) ≡ l.fn.out.items ++ list_written l.list
