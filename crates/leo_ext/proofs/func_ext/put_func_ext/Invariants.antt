use Rattle.std.proofs.Common.{map, take}
use Rattle.leo_ext.specs.Functions.{extended_member}
use Rattle.leo_ext.specs.Listing.{Adds}
use Rattle.leo_ext.proofs.func_ext.put_func_ext.Given as goal

abbrev pub invariant-loop-one : goal.invariant-loop-one
invariant-loop-one l = Adds l.bank l.bank l.fn.dues.items l.dues.items (map (extended_member l.bank l.before) (take l.one-index l.extended))
