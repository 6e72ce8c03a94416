use Rattle.std.proofs.Common.{◌≡◌, ◌<◌, ◌++◌, length, map}
use Rattle.leo_terms.specs.Contents.{type_at}
use Rattle.leo_clause.specs.Typed.{AreTypesOf}
use Rattle.leo_ext.specs.Binding.{argument_types}
use Rattle.leo_ext.proofs.binding.argument_types.Given as goal

abbrev pub invariant-loop-from : goal.invariant-loop-from
invariant-loop-from l = (map (type_at l.bank) l.types.items ++ argument_types (type_at l.bank l.rest) ≡ argument_types (type_at l.bank l.fn.ty)) × AreTypesOf l.bank l.types.items × (l.rest < length l.bank.types)

abbrev pub decreases-loop-from : goal.decreases-loop-from
decreases-loop-from l = l.rest
