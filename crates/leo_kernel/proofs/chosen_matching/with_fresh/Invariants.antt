use Rattle.std.proofs.Common.{◌≤◌}
use Rattle.leo_terms.specs.Contents.{Extends, tree_at, type_at, type_number}
use Rattle.leo_terms.specs.Facts.{variable_range}
use Rattle.leo_terms.specs.Tree.{type_of}
use Rattle.leo_kernel.specs.ChosenMatching.{IsFreshSoFar, LeadsToType}
use Rattle.leo_kernel.proofs.chosen_matching.with_fresh.Given as goal

abbrev pub invariant-loop-ty : goal.invariant-loop-ty
invariant-loop-ty l = record {
  grows : Extends l.initial.bank l.bank;
  fresh : IsFreshSoFar l.bank l.fn.top (tree_at l.initial.bank l.initial.whole) l.whole l.number;
  low : variable_range (tree_at l.initial.bank l.initial.whole) ≤ l.number;
  leads : LeadsToType (type_at l.initial.bank l.ty) (type_of (tree_at l.initial.bank l.initial.whole)) → LeadsToType (type_at l.initial.bank l.ty) (type_of (tree_at l.bank l.whole));
}

abbrev pub decreases-loop-ty : goal.decreases-loop-ty
decreases-loop-ty l = type_number l.bank l.whole
