-- What the walks over terms of a bank have seen. No public contract speaks of it.
use Rattle.std.specs.Prelude.{ℕ, ◌≡◌, true, List, map, slice_get, Some}
use Rattle.leo_terms.specs.Contents.{Contents, tree_at, type_at}
use Rattle.leo_kernel.specs.declared.leaves.LeafTest.{LeafTest}
use Rattle.leo_kernel.specs.declared.leaves.Visit.{Visit}
use Rattle.leo_kernel.specs.Leaves.{leaves_pass}

-- the leaves of each of these terms, under so many lambdas, pass
abbrev pub HavePassed : Contents → LeafTest → List ℕ → List Visit → Type 0
HavePassed c test vars visits = (i : ℕ) (v : Visit) → slice_get visits i ≡ Some v → leaves_pass test (map (type_at c) vars) v.depth (tree_at c v.term) ≡ true
