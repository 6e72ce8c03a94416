-- How often variables stand in lists of nodes.
use Rattle.std.specs.Prelude.{ℕ, Bool, true, false, nat_eq, nat_le, List, count_by}
use Rattle.fo_terms.specs.declared.term.FoNode.{FoNode}
use Rattle.fo_terms.specs.declared.term.FoNode.TheVariants.{Var, Sym}

-- whether the node is that of the variable
abbrev pub is_node_of : ℕ → FoNode → Bool
is_node_of v (Var w) = nat_eq v w
is_node_of v (Sym f k) = false

-- whether the variable of the node, if it has one, stands in the first list at least as often as in the second
unfoldable pub covers_at : List FoNode → List FoNode → FoNode → Bool
covers_at ms ns (Var v) = nat_le (count_by (is_node_of v) ns) (count_by (is_node_of v) ms)
covers_at ms ns (Sym f k) = true
