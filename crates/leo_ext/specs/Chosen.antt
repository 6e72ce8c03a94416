-- Chosen terms of a bank that calls hand on. No public contract speaks of them.
use Rattle.std.specs.Prelude.{ℕ, ◌≡◌, [], Option, Some, None}
use Rattle.leo_terms.specs.declared.node.Op.{Op}
use Rattle.leo_terms.specs.declared.node.Op.TheVariants as op
use Rattle.leo_terms.specs.Contents.{Contents, tree_at, type_at}
use Rattle.leo_terms.specs.Tree.{Tree}
use Rattle.leo_clause.specs.Trees.{ClauseTree}
use Rattle.leo_kernel.specs.Shapes.{choice_tree}
use Rattle.leo_kernel.specs.Tops.{IsPropertyOf}
use Rattle.leo_ext.specs.declared.choice.Chosen.{Chosen}
use Rattle.leo_ext.specs.Members.{choice_for}

abbrev pub chosen_if : ℕ → Option ℕ → Option Chosen
chosen_if a None = None
chosen_if a (Some p) = Some (record { ty = a; property = p })

abbrev pub choice_by : Op → Option ℕ → Option Chosen
choice_by (op.Eps a) x = chosen_if a x
choice_by op.True x = None
choice_by op.False x = None
choice_by op.Not x = None
choice_by op.Or x = None
choice_by op.And x = None
choice_by op.Imp x = None
choice_by (op.Eq a) x = None
choice_by (op.All a) x = None
choice_by (op.Some a) x = None

-- the axiom of choice does not speak of the term
pub record IsNotChosen (t : Tree) : Type 0 where
  pub no_member : (p : ℕ) (c : ClauseTree) → choice_for p c t ≡ []

-- it is this term
pub record IsChosen (c : Contents) (t : Tree) (k : Chosen) : Type 0 where
  pub property : IsPropertyOf c k.ty k.property
  pub reads : t ≡ choice_tree (type_at c k.ty) (tree_at c k.property)
