-- Terms of a bank that calls hand on. No public contract speaks of them.
use Rattle.std.specs.Prelude.{◌≡◌, ◌<◌, length, true, false}
use Rattle.leo_terms.specs.Contents.{Contents, tree_at}
use Rattle.leo_para.specs.declared.truths.Truths.{Truths}
use Rattle.leo_kernel.specs.Shapes.{truth_tree}

-- T and F
pub record AreTruths (c : Contents) (t : Truths) : Type 0 where
  pub yes_within : t.yes < length c.terms
  pub no_within : t.no < length c.terms
  pub yes_reads : tree_at c t.yes ≡ truth_tree true
  pub no_reads : tree_at c t.no ≡ truth_tree false
