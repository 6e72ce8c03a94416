-- The passive clauses: each a number with its weight.
use Rattle.std.specs.Prelude.{◌≡◌, ℕ, Bool, true, ◌<◌, ◌≤◌, ◌⊎◌, List, [], ◌∷◌, filter, not, nat_eq, Option, Some, None}
use Rattle.std.specs.List.{Contains, list_any}

pub record Entry : Type 0 where
  pub number : ℕ
  pub weight : ℕ

-- the numbers of the entries are all below n
abbrev pub AreBelow : ℕ → List Entry → Type 0
AreBelow n [] = Unit {0}
AreBelow n (e ∷ es) = (e.number < n) × AreBelow n es

-- the entries without that of a number
abbrev pub without : ℕ → List Entry → List Entry
without n es = filter (λ (e : Entry). not (nat_eq n e.number)) es

-- whether some entry has the number
abbrev pub has_number : ℕ → List Entry → Bool
has_number n es = list_any (λ (e : Entry). nat_eq n e.number) es

-- the number of an entry of least number; none where there is no entry
abbrev pub IsOldest : List Entry → Option ℕ → Type 0
IsOldest es None = es ≡ []
IsOldest es (Some n) = (has_number n es ≡ true) × ((d : Entry) → Contains es d → n ≤ d.number)

-- the first entry goes before the second, by weight and then by number
abbrev pub GoesBefore : Entry → Entry → Type 0
GoesBefore d e = (d.weight < e.weight) ⊎ ((d.weight ≡ e.weight) × (d.number ≤ e.number))

-- the number of an entry of least weight, and of these of least number; none where there is no entry
abbrev pub IsLightest : List Entry → Option ℕ → Type 0
IsLightest es None = es ≡ []
IsLightest es (Some n) = (e : Entry) × Contains es e × (e.number ≡ n) × ((d : Entry) → Contains es d → GoesBefore e d)
