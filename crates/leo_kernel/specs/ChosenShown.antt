-- What a clause shows of a symbol that has variables for arguments. No public contract speaks of it.
use Rattle.std.specs.Prelude.{ℕ, ◌≡◌, ◌<◌, length, List, slice_get, IsSomeAnd}
use Rattle.leo_q0.specs.Terms.{SimpleType}
use Rattle.leo_terms.specs.Tree.{Tree, app}
use Rattle.leo_terms.specs.Contents.{Contents, tree_at}
use Rattle.leo_terms.specs.Typing.{IsWellTyped}
use Rattle.leo_clause.specs.Trees.{ClauseTree}
use Rattle.leo_kernel.specs.declared.chosen_shown.Shown.{Shown}
use Rattle.leo_kernel.specs.declared.chosen_shown.Shown.TheVariants as shown
use Rattle.leo_kernel.specs.Choosing.{Claim, SpeaksOf, applied_to, AreVariablesOf}

-- variables that are shown, with which the term t is not typed
pub record IsUntyped (variables : List SimpleType) (t : Tree) (Shows : List Tree → Type 0) : Type 0 where
  pub arguments : List Tree
  pub variables_of : AreVariablesOf variables arguments
  pub shows : Shows arguments
  pub untyped : IsWellTyped (applied_to t arguments) → ⊥

-- variables that are shown, with which the term t is the term u of the bank
pub record IsShownWith (c : Contents) (variables : List SimpleType) (t : Tree) (Shows : List Tree → Type 0) (u : ℕ) : Type 0 where
  pub arguments : List Tree
  pub variables_of : AreVariablesOf variables arguments
  pub shows : Shows arguments
  pub within : u < length c.terms
  pub reads : tree_at c u ≡ applied_to t arguments

abbrev pub IsShown : Contents → List SimpleType → Tree → (List Tree → Type 0) → Shown → Type 0
IsShown c variables t Shows shown.Nothing = (xs : List Tree) → AreVariablesOf variables xs → Shows xs → ⊥
IsShown c variables t Shows shown.Untyped = IsUntyped variables t Shows
IsShown c variables t Shows (shown.Term u) = IsShownWith c variables t Shows u

-- a term with one argument more, if it takes it
abbrev pub IsExtended : Contents → Tree → Tree → Shown → Type 0
IsExtended c f x shown.Nothing = ⊥
IsExtended c f x shown.Untyped = IsWellTyped (app f x) → ⊥
IsExtended c f x (shown.Term u) = (u < length c.terms) × (tree_at c u ≡ app f x)

-- w is the symbol with these arguments
abbrev pub ShowsSymbol : Tree → Tree → List Tree → Type 0
ShowsSymbol s w xs = w ≡ applied_to s xs

-- the literal with this number has the symbol with these arguments where the claim has w
abbrev pub ShowsClaim : ClauseTree → ℕ → Claim → Tree → List Tree → Type 0
ShowsClaim clause i claim s xs = IsSomeAnd (slice_get clause.literals i) (SpeaksOf claim (applied_to s xs))
