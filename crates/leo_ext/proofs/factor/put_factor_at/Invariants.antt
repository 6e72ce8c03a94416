use Rattle.leo_clause.specs.Trees.{literal_at}
use Rattle.leo_ext.specs.Members.{factor_with}
use Rattle.leo_ext.proofs.Adding.{AddsFirst}
use Rattle.leo_ext.proofs.factor.put_factor_at.Given as goal

abbrev pub invariant-loop-second : goal.invariant-loop-second
invariant-loop-second l = AddsFirst (λ k. factor_with l.before k l.at (literal_at l.bank l.lit)) l.bank l.clause l.bank l.second l.fn.dues.items l.dues.items
