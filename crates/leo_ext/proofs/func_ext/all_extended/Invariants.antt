use Rattle.leo_ext.proofs.FunctionMembers.{ExtendsFirst}
use Rattle.leo_ext.proofs.func_ext.all_extended.Given as goal

abbrev pub invariant-loop-at : goal.invariant-loop-at
invariant-loop-at l = ExtendsFirst l.initial.bank l.bank l.initial.choices.items l.choices.items l.clause l.at l.extended.items
