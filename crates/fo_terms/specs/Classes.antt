-- Classes of places: each place has another of its class, which does not stand after it, or itself.
use Rattle.std.specs.Prelude.{ℕ, suc, ◌≡◌, ◌≤◌, ◌+◌, List, [], ◌∷◌, Some, slice_get, nat_eq, if◌then◌else◌}
use Rattle.fo_terms.specs.Terms.{Term}

abbrev pub IsForest : List ℕ → Type 0
IsForest ps = (i j : ℕ) → slice_get ps i ≡ Some j → j ≤ i

-- a function has one value on each class
abbrev pub IsAlong : (ℕ → Term) → List ℕ → Type 0
IsAlong g ps = (i j : ℕ) → slice_get ps i ≡ Some j → g j ≡ g i

-- each place is alone in its class
abbrev pub AreAlone : List ℕ → Type 0
AreAlone ps = (i j : ℕ) → slice_get ps i ≡ Some j → i ≡ j

-- how many classes there are, from a place on
abbrev pub roots_from : ℕ → List ℕ → ℕ
roots_from i [] = 0
roots_from i (p ∷ ps) = (if nat_eq p i then 1 else 0) + roots_from (suc i) ps

abbrev pub roots : List ℕ → ℕ
roots ps = roots_from 0 ps
