use Rattle.leo_ext.specs.Members.{bool_ext_at}
use Rattle.leo_ext.proofs.Adding.{AddsFirst}
use Rattle.leo_ext.proofs.bool_ext.put_bool_ext.Given as goal

abbrev pub invariant-loop-at : goal.invariant-loop-at
invariant-loop-at l = AddsFirst (bool_ext_at l.before) l.bank l.clause l.bank l.at l.fn.dues.items l.dues.items
