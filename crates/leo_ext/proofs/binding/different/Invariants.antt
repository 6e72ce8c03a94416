use Rattle.std.proofs.Common.{◌≡◌, [], nat_eq, take}
use Rattle.leo_clause.specs.Arranging.{firsts}
use Rattle.leo_ext.proofs.binding.different.Given as goal

abbrev pub invariant-loop-ty : goal.invariant-loop-ty
invariant-loop-ty l = l.kept.items ≡ firsts nat_eq [] (take l.ty-index l.types)
