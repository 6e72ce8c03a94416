-- Terms of a bank that calls hand on. No public contract speaks of them.
use Rattle.std.specs.Prelude.{ℕ, ◌≡◌, ◌<◌, length, Bool, true, false, if◌then◌else◌}
use Rattle.leo_terms.specs.Contents.{Contents, tree_at}
use Rattle.leo_clause.specs.declared.clause.Lit.{Lit}
use Rattle.leo_ext.specs.declared.truths.Truths.{Truths}
use Rattle.leo_kernel.specs.Shapes.{truth_tree}

-- T and F
pub record AreTruths (c : Contents) (t : Truths) : Type 0 where
  pub yes_within : t.yes < length c.terms
  pub no_within : t.no < length c.terms
  pub yes_reads : tree_at c t.yes ≡ truth_tree true
  pub no_reads : tree_at c t.no ≡ truth_tree false

-- `A = v`
abbrev pub valued_lit : Truths → ℕ → Bool → Lit
valued_lit t a v = record { pos = true; left = a; right = if v then t.yes else t.no }
