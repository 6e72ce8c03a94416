-- Marks on clauses, and the lines of a clause.
use Rattle.std.specs.Prelude.{ℕ, ◌≡◌, ◌+◌, ◌-◌, ◌<◌, ◌≤◌, ◌⊎◌, Bool, true, false, List, [], ◌∷◌, ◌++◌, length, Some, slice_get, slice_index}
use Rattle.fo_terms.specs.Terms.{Terms}
use Rattle.fo_text.specs.declared.answer.FoStep.{FoStep}
use Rattle.fo_super.specs.Members.{Member}
use Rattle.fo_super.specs.Conclusions.{line_count, lines}
use Rattle.fo_super.specs.Turns.{Origin, given, concluded}
use Rattle.fo_prove.specs.Refutations.{IsParent, RestsOn}

-- each parent comes before its clause
abbrev pub AreEarlier : List Origin → Type 0
AreEarlier os = (n m : ℕ) (o : Origin) → slice_get os n ≡ Some o → IsParent o m → m < n

-- each parent is below this number
abbrev pub AreParentsWithin : Origin → ℕ → Type 0
AreParentsWithin o bound = (m : ℕ) → IsParent o m → m < bound

-- those of which P holds are marked too, and no others
pub record IsMarkedFor (P : ℕ → Type 0) (old new : List Bool) : Type 0 where
  pub same_length : length new ≡ length old
  pub stays : (k : ℕ) → slice_get old k ≡ Some true → slice_get new k ≡ Some true
  pub each : (k : ℕ) → P k → slice_get new k ≡ Some true
  pub only : (k : ℕ) → slice_get new k ≡ Some true → (slice_get old k ≡ Some true) ⊎ P k

-- of the clauses from number n on that are marked, the parents are marked too; only such are marked on which clause e rests
pub record IsClosedFrom (n : ℕ) (os : List Origin) (e : ℕ) (marks : List Bool) : Type 0 where
  pub same_length : length marks ≡ length os
  pub last : slice_get marks e ≡ Some true
  pub sound : (k : ℕ) → slice_get marks k ≡ Some true → RestsOn os e k
  pub closed : (k m : ℕ) (o : Origin) → n ≤ k → slice_get marks k ≡ Some true → slice_get os k ≡ Some o → IsParent o m → slice_get marks m ≡ Some true

-- exactly the clauses are marked on which clause e rests
pub record AreNeeded (os : List Origin) (e : ℕ) (marks : List Bool) : Type 0 where
  pub same_length : length marks ≡ length os
  pub sound : (k : ℕ) → slice_get marks k ≡ Some true → RestsOn os e k
  pub whole : (k : ℕ) → RestsOn os e k → slice_get marks k ≡ Some true

-- a clause's lines are put at the end, where it is marked
pub data Adds (literals : ℕ → ℕ) : Origin → Bool → ℕ → List ℕ → List FoStep → ℕ → List ℕ → List FoStep → Type 0 where
  of_text : {mark : Bool} {next : ℕ} {last : List ℕ} {steps : List FoStep} → Adds literals given mark next last steps next (last ++ length last ∷ []) steps
  left_out : {next : ℕ} {last : List ℕ} {steps : List FoStep} {m : Member} {vars : List ℕ} {terms : Terms} → Adds literals (concluded m vars terms) false next last steps next (last ++ 0 ∷ []) steps
  written : {next : ℕ} {last : List ℕ} {steps : List FoStep} {m : Member} {vars : List ℕ} {terms : Terms} →
      Adds literals (concluded m vars terms) true next last steps (next + line_count m) (last ++ (next + line_count m - 1) ∷ []) (steps ++ lines (slice_index last) literals next m vars terms)
