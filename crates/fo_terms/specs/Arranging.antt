-- Bindings in an order: each behind those of the variables of its term.
use Rattle.std.specs.Prelude.{ℕ, ◌≡◌, ◌≢◌, ◌<◌, ◌≤◌, ◌+◌, ◌↔◌, Bool, true, false, List, [], ◌∷◌, Some, length, slice_get, if◌then◌else◌}
use Rattle.fo_terms.specs.declared.term.FoNode.{FoNode}
use Rattle.fo_terms.specs.declared.bindings.Binding.{Binding}
use Rattle.fo_terms.specs.Terms.{occurs}
use Rattle.fo_terms.specs.Substitutions.{Substitution}
use Rattle.fo_terms.specs.Places.{term_at}
use Rattle.fo_terms.specs.Bindings.{Binds, Obeys}

-- each bound variable of the term at a place has a marked binding
abbrev pub IsReady : List FoNode → List Binding → List Bool → ℕ → Type 0
IsReady ns bs marks at = (v k : ℕ) → occurs v (term_at ns at) ≡ true → Binds bs k v → slice_get marks k ≡ Some true

-- one of them has none
pub record IsBlocked (ns : List FoNode) (bs : List Binding) (marks : List Bool) (at : ℕ) : Type 0 where
  pub variable : ℕ
  pub number : ℕ
  pub occurs_there : occurs variable (term_at ns at) ≡ true
  pub binds : Binds bs number variable
  pub unmarked : slice_get marks number ≡ Some false

-- no term has a variable that is bound with it or behind it, and none is bound twice
pub record AreOrdered (ns : List FoNode) (done : List Binding) : Type 0 where
  pub inside : (i : ℕ) (b : Binding) → slice_get done i ≡ Some b → b.place < length ns
  pub absent : (i j : ℕ) (b c : Binding) → i ≤ j → slice_get done i ≡ Some b → slice_get done j ≡ Some c → occurs c.variable (term_at ns b.place) ≡ true → ⊥
  pub once : (i j : ℕ) (b c : Binding) → i < j → slice_get done i ≡ Some b → slice_get done j ≡ Some c → b.variable ≢ c.variable

-- the marked bindings stand in an order
pub record AreArranged (ns : List FoNode) (bs : List Binding) (marks : List Bool) (done : List Binding) : Type 0 where
  pub as_long : length marks ≡ length bs
  pub marked : (i : ℕ) (b : Binding) → slice_get done i ≡ Some b → (k : ℕ) × (slice_get bs k ≡ Some b) × (slice_get marks k ≡ Some true)
  pub all : (k : ℕ) (b : Binding) → slice_get bs k ≡ Some b → slice_get marks k ≡ Some true → (i : ℕ) × (slice_get done i ≡ Some b)
  pub ready : (i : ℕ) (b : Binding) → slice_get done i ≡ Some b → IsReady ns bs marks b.place
  pub ordered : AreOrdered ns done

-- how many are not marked
abbrev pub unmarked : List Bool → ℕ
unmarked [] = 0
unmarked (m ∷ ms) = (if m then 0 else 1) + unmarked ms

-- each binding up to a number that is not marked has a variable whose binding is not marked
abbrev pub AreStuck : List FoNode → List Binding → List Bool → ℕ → Type 0
AreStuck ns bs marks n = (k : ℕ) (b : Binding) → k < n → slice_get bs k ≡ Some b → slice_get marks k ≡ Some false → IsBlocked ns bs marks b.place

-- a try left all as it was, or marked one more
pub record IsTried (marks now : List Bool) (changed : Bool) : Type 0 where
  pub kept : changed ≡ false → now ≡ marks
  pub fewer : changed ≡ true → unmarked now < unmarked marks

abbrev pub SayTheSame : List FoNode → List Binding → List Binding → Type 0
SayTheSame ns bs cs = (r : Substitution) → Obeys ns bs r ↔ Obeys ns cs r
