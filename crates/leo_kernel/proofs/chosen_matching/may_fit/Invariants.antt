use Rattle.std.proofs.Common.{◌<◌, length}
use Rattle.leo_terms.specs.Contents.{Extends, tree_at, type_number}
use Rattle.leo_kernel.specs.ChosenMatching.{MayGet}
use Rattle.leo_kernel.proofs.chosen_matching.may_fit.Given as goal

abbrev pub invariant-loop-bank : goal.invariant-loop-bank
invariant-loop-bank l = record {
  grows : Extends l.initial.bank l.bank;
  within : l.term < length l.bank.terms;
  there : MayGet l.initial.bank l.vars l.wanted (tree_at l.initial.bank l.initial.term) → MayGet l.initial.bank l.vars l.wanted (tree_at l.bank l.term);
  back : MayGet l.initial.bank l.vars l.wanted (tree_at l.bank l.term) → MayGet l.initial.bank l.vars l.wanted (tree_at l.initial.bank l.initial.term);
}

abbrev pub decreases-loop-bank : goal.decreases-loop-bank
decreases-loop-bank l = type_number l.bank l.term
