-- Which of some numbered terms unify with a term.
use Rattle.std.specs.Prelude.{ℕ, ◌≡◌, List, Some, slice_get}
use Rattle.fo_terms.specs.Terms.{Term}
use Rattle.fo_terms.specs.Substitutions.{Substitution, IsUnifier}

-- some substitution makes both terms one
abbrev pub IsUnifiable : Term → Term → Type 0
IsUnifiable s t = (r : Substitution) × IsUnifier r s t

-- each number is that of a term that unifies
abbrev pub HasOnlyMet : Term → List (ℕ × Term) → List ℕ → Type 0
HasOnlyMet t entries found = (i n : ℕ) → slice_get found i ≡ Some n → (k : ℕ) × (s : Term) × (slice_get entries k ≡ Some (n, s)) × IsUnifiable s t

-- each term that unifies has its number among them
abbrev pub HasAllMet : Term → List (ℕ × Term) → List ℕ → Type 0
HasAllMet t entries found = (k n : ℕ) (s : Term) → slice_get entries k ≡ Some (n, s) → IsUnifiable s t → (i : ℕ) × (slice_get found i ≡ Some n)
