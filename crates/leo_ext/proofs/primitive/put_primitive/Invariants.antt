use Rattle.leo_ext.specs.Members.{primitive_at}
use Rattle.leo_ext.proofs.Adding.{AddsFirst}
use Rattle.leo_ext.proofs.primitive.put_primitive.Given as goal

abbrev pub invariant-loop-at : goal.invariant-loop-at
invariant-loop-at l = AddsFirst (primitive_at l.before) l.initial.bank l.clause l.bank l.at l.fn.dues.items l.dues.items
