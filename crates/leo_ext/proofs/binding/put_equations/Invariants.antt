use Rattle.std.proofs.Common.{map, take}
use Rattle.leo_terms.specs.Contents.{type_at}
use Rattle.leo_ext.specs.Binding.{equation_binding}
use Rattle.leo_ext.specs.Bounds.{AddsBindings}
use Rattle.leo_ext.proofs.binding.put_equations.Given as goal

abbrev pub invariant-loop-side : goal.invariant-loop-side
invariant-loop-side l = AddsBindings l.initial.bank l.bank l.fn.bounds.items l.bounds.items (map (equation_binding l.next (map (type_at l.initial.bank) l.types)) (map (type_at l.initial.bank) (take l.side-index l.sides)))
