use Rattle.std.proofs.Common.{◌≡◌, ◌<◌, length}
use Rattle.leo_terms.specs.Contents.{tree_at}
use Rattle.leo_terms.specs.Facts.{variable_range}
use Rattle.leo_kernel.specs.ChosenMatching.{LeadsTo}
use Rattle.leo_kernel.proofs.chosen_matching.standing.Given as goal

abbrev pub invariant-loop-number : goal.invariant-loop-number
invariant-loop-number l = record {
  inner_within : l.inner < length l.bank.terms;
  beside_within : l.beside < length l.bank.terms;
  range_is : variable_range (tree_at l.bank l.inner) ≡ variable_range (tree_at l.bank l.fn.term);
  leads : LeadsTo (tree_at l.bank l.fn.term) (tree_at l.bank l.fn.form) (tree_at l.bank l.inner) (tree_at l.bank l.beside);
}

abbrev pub decreases-loop-number : goal.decreases-loop-number
decreases-loop-number l = l.inner
