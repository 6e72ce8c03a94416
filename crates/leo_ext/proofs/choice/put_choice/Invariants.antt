use Rattle.leo_ext.specs.Members.{choice_at}
use Rattle.leo_ext.proofs.Adding.{AddsFirst}
use Rattle.leo_ext.proofs.choice.put_choice.Given as goal

abbrev pub invariant-loop-at : goal.invariant-loop-at
invariant-loop-at l = AddsFirst (choice_at l.before) l.initial.bank l.clause l.bank l.at l.fn.dues.items l.dues.items
