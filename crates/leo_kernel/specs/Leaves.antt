-- What the walks over the leaves of a term say: whether each variable, index and symbol passes a test. No public contract speaks of it.
use Rattle.std.specs.Prelude.{ℕ, ◌≡◌, ◌+◌, nat_eq, nat_lt, not, Bool, true, false, ◌&&◌, List, [], ◌∷◌, slice_get, Option, Some, None}
use Rattle.leo_q0.specs.Terms.{SimpleType, same_type}
use Rattle.leo_terms.specs.Tree.{Tree, variable, bound, symbol, app, lam, logic, absent}
use Rattle.leo_clause.specs.Trees.{Literal}
use Rattle.leo_kernel.specs.declared.leaves.LeafTest.{LeafTest}
use Rattle.leo_kernel.specs.declared.leaves.LeafTest.TheVariants.{Over, Declared, Lacks}

abbrev pub is_type : Option SimpleType → SimpleType → Bool
is_type None a = false
is_type (Some b) a = same_type b a

abbrev pub variable_passes : LeafTest → List SimpleType → ℕ → SimpleType → Bool
variable_passes Over variables n a = is_type (slice_get variables n) a
variable_passes Declared variables n a = is_type (slice_get variables n) a
variable_passes (Lacks s) variables n a = true

abbrev pub index_passes : LeafTest → ℕ → ℕ → Bool
index_passes Over depth i = nat_lt i depth
index_passes Declared depth i = true
index_passes (Lacks s) depth i = true

abbrev pub symbol_passes : LeafTest → ℕ → Bool
symbol_passes Over n = true
symbol_passes Declared n = true
symbol_passes (Lacks s) n = not (nat_eq n s)

-- each leaf of the term under `depth` lambdas passes
abbrev pub leaves_pass : LeafTest → List SimpleType → ℕ → Tree → Bool
leaves_pass test variables depth (variable n a) = variable_passes test variables n a
leaves_pass test variables depth (bound i a) = index_passes test depth i
leaves_pass test variables depth (symbol n a) = symbol_passes test n
leaves_pass test variables depth (app f x) = leaves_pass test variables depth f && leaves_pass test variables depth x
leaves_pass test variables depth (lam a t) = leaves_pass test variables (depth + 1) t
leaves_pass test variables depth (logic c x y) = leaves_pass test variables depth x && leaves_pass test variables depth y
leaves_pass test variables depth absent = true

-- each variable of these literals is one of these
abbrev pub AreDeclared : List SimpleType → List Literal → Type 0
AreDeclared variables [] = Unit {0}
AreDeclared variables (l ∷ ls) = (leaves_pass Declared variables 0 l.left ≡ true) × (leaves_pass Declared variables 0 l.right ≡ true) × AreDeclared variables ls
