-- One more term is tried.
use Rattle.std.proofs.Common.{ℕ, ◌≡◌, ◌+◌, ◌<◌, List, [], ◌∷◌, ◌++◌, length, Some, sym, ◌∙◌, ap, arith, ◌⊎◌, inl, inr}
use Rattle.std.specs.Prelude.{slice_get}
use Rattle.fo_terms.specs.Terms.{Term}
use Rattle.fo_terms.proofs.Extending.{slice_get-push, slice_get-pushed, slice_get-kept}
use Rattle.fo_index.specs.Meeting.{IsUnifiable, HasOnlyMet}

-- the terms before a place that unify have their numbers among those found
abbrev pub HasMetBefore : Term → List (ℕ × Term) → ℕ → List ℕ → Type 0
HasMetBefore t entries at found = (k n : ℕ) (s : Term) → k < at → slice_get entries k ≡ Some (n, s) → IsUnifiable s t → (i : ℕ) × (slice_get found i ≡ Some n)

last_or_before : (k n : ℕ) → k < n + 1 → (k < n) ⊎ (k ≡ n)
last_or_before k n h = grind arith

pair_parts : (e : ℕ × Term) (n : ℕ) (s : Term) → Some e ≡ Some (n, s) → (e.0 ≡ n) × (e.1 ≡ s)
pair_parts e n s h = ((cc), (cc))

module _ (t : Term) (entries : List (ℕ × Term)) (at : ℕ) (e : ℕ × Term) (stands : slice_get entries at ≡ Some e) (found : List ℕ) where
  pub met-only : IsUnifiable e.1 t → HasOnlyMet t entries found → HasOnlyMet t entries (found ++ e.0 ∷ [])
  met-only u h i n g = elim (slice_get-push found e.0 i n g) [
    | inl l ↦ h i n l
    | inr m ↦ (at, e.1, stands ∙ ap (λ (x : ℕ). Some (x, e.1)) m.1, u)
  ]

  pub met-all : HasMetBefore t entries at found → HasMetBefore t entries (at + 1) (found ++ e.0 ∷ [])
  met-all h k n s l g u = elim (last_or_before k at l) [
    | inl b ↦ (let r = h k n s b g u in (r.0, slice_get-kept found (e.0 ∷ []) r.0 n r.1))
    | inr q ↦ (let same = pair_parts e n s (sym stands ∙ rw q at g) in (length found, slice_get-pushed found e.0 ∙ ap (λ (x : ℕ). Some x) same.0))
  ]

  pub unmet-all : (IsUnifiable e.1 t → ⊥) → HasMetBefore t entries at found → HasMetBefore t entries (at + 1) found
  unmet-all r h k n s l g u = elim (last_or_before k at l) [
    | inl b ↦ h k n s b g u
    | inr q ↦ (let same = pair_parts e n s (sym stands ∙ rw q at g) in absurd (r (rw same.1 u)))
  ]
