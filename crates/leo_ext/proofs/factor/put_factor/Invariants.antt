use Rattle.leo_ext.specs.Members.{factor_at}
use Rattle.leo_ext.proofs.Adding.{AddsFirst}
use Rattle.leo_ext.proofs.factor.put_factor.Given as goal

abbrev pub invariant-loop-at : goal.invariant-loop-at
invariant-loop-at l = AddsFirst (factor_at l.before) l.bank l.clause l.bank l.at l.fn.dues.items l.dues.items
