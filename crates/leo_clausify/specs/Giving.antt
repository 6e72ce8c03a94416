-- Terms that are given for the variables of a clause. No public contract speaks of it.
use Rattle.std.specs.Prelude.{ℕ, ◌≡◌, ◌<◌, nat_eq, true, if◌then◌else◌, List, length, map, slice_get, Some}
use Rattle.std.specs.List.{list_any}
use Rattle.leo_q0.specs.Terms.{SimpleType}
use Rattle.leo_terms.specs.Contents.{Contents, AreTerms, tree_at, type_at}
use Rattle.leo_terms.specs.Tree.{Tree, variable, bound, lam}
use Rattle.leo_clause.specs.Arranging.{place_in}
use Rattle.leo_kernel.specs.Shapes.{choice_tree, truth_tree}

-- the first n variables are given what `f` says of their numbers and types
pub record AreGivenBy (f : ℕ → SimpleType → Tree) (old new : Contents) (vars sigma : List ℕ) (n : ℕ) : Type 0 where
  pub count : length sigma ≡ n
  pub terms : AreTerms new sigma
  pub given : (m : ℕ) (a : SimpleType) → m < n → slice_get (map (type_at old) vars) m ≡ Some a → slice_get (map (tree_at new) sigma) m ≡ Some (f m a)

-- a closed term of a type
abbrev pub some_tree : SimpleType → Tree
some_tree a = choice_tree a (lam a (truth_tree true))

-- a variable of the order gets its place as its number, and for others a closed term is given
abbrev pub placed_tree : List ℕ → ℕ → SimpleType → Tree
placed_tree order n a = if list_any (nat_eq n) order then variable (place_in order n) a else some_tree a

-- the variable n becomes an index, and others stay
abbrev pub index_tree : ℕ → ℕ → SimpleType → Tree
index_tree n m a = if nat_eq m n then bound 0 a else variable m a
