-- Which sorts have a term.
use Rattle.std.specs.Prelude.{ℕ, ◌≡◌, ◌+◌, ◌<◌, ◌≤◌, ◌⊎◌, Bool, true, false, List, [], ◌∷◌, Some, slice_get, is_some, if◌then◌else◌}
use Rattle.std.specs.List.{AllByRecursion}
use Rattle.std.specs.Ordering.{nat_cmp}
use Rattle.std.specs.BTreeMap.{BTreeMap, get}
use Rattle.fo_text.specs.declared.problem.FoSym.{FoSym}
use Rattle.fo_text.specs.Nodes.{Inhabited}

-- a sort is in the map
abbrev pub knows : BTreeMap ℕ Bool → ℕ → Bool
knows known s = is_some (get nat_cmp known s)

abbrev pub Knows : BTreeMap ℕ Bool → ℕ → Type 0
Knows known s = knows known s ≡ true

abbrev pub KnowsAll : BTreeMap ℕ Bool → List ℕ → Type 0
KnowsAll known ss = AllByRecursion (Knows known) ss

-- the sort is added, and nothing else
pub record IsAdded (old new : BTreeMap ℕ Bool) (s : ℕ) : Type 0 where
  pub there : Knows new s
  pub kept : (t : ℕ) → Knows old t → Knows new t
  pub only : (t : ℕ) → Knows new t → (t ≡ s) ⊎ Knows old t

-- each sort in the map has a term
abbrev pub AreSound : List ℕ → List FoSym → BTreeMap ℕ Bool → Type 0
AreSound vars syms known = (s : ℕ) → Knows known s → Inhabited vars syms s

-- the sorts of the first variables are in the map
abbrev pub HasVars : BTreeMap ℕ Bool → List ℕ → ℕ → Type 0
HasVars known vars n = (v s : ℕ) → v < n → slice_get vars v ≡ Some s → Knows known s

-- what the first symbols give of sorts in the map is in the map
abbrev pub HasResults : BTreeMap ℕ Bool → List FoSym → ℕ → Type 0
HasResults known syms n = (f : ℕ) (y : FoSym) → f < n → slice_get syms f ≡ Some y → KnowsAll known y.args → Knows known y.result

-- a symbol gives a sort that is not in the map
pub record IsNew (known : BTreeMap ℕ Bool) (syms : List FoSym) (s : ℕ) : Type 0 where
  pub at : ℕ
  pub symbol : FoSym
  pub stands : slice_get syms at ≡ Some symbol
  pub result_is : symbol.result ≡ s
  pub args : KnowsAll known symbol.args
  pub unknown : Knows known s → ⊥

-- a try with a symbol added its sort, or found nothing to add
abbrev pub IsTry : BTreeMap ℕ Bool → BTreeMap ℕ Bool → FoSym → Bool → Type 0
IsTry old new y true = IsAdded old new y.result × KnowsAll old y.args × (Knows old y.result → ⊥)
IsTry old new y false = (new ≡ old) × (KnowsAll old y.args → Knows old y.result)

-- how many symbols give a sort that is not in the map
abbrev pub unknown_results : BTreeMap ℕ Bool → List FoSym → ℕ
unknown_results known [] = 0
unknown_results known (y ∷ ys) = (if knows known y.result then 0 else 1) + unknown_results known ys

-- sorts that the symbols give were added
pub record IsGrown (syms : List FoSym) (old new : BTreeMap ℕ Bool) : Type 0 where
  pub kept : (s : ℕ) → Knows old s → Knows new s
  pub sound : (vars : List ℕ) → AreSound vars syms old → AreSound vars syms new
  pub no_more : unknown_results new syms ≤ unknown_results old syms
