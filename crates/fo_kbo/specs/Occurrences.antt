-- How often variables occur in terms.
use Rattle.std.specs.Prelude.{ℕ, ◌+◌, ◌≡◌, ◌≤◌, nat_eq, if◌then◌else◌}
use Rattle.fo_terms.specs.Terms.{Term, Terms, variable, symbol, none, more}

-- how often the variable occurs
abbrev mutual
  pub occurrences : ℕ → Term → ℕ
  occurrences v (variable w) = if nat_eq v w then 1 else 0
  occurrences v (symbol f ts) = occurrences_in_all v ts

  pub occurrences_in_all : ℕ → Terms → ℕ
  occurrences_in_all v none = 0
  occurrences_in_all v (more t ts) = occurrences v t + occurrences_in_all v ts

-- each variable occurs in the first term at least as often as in the second
abbrev pub Covers : Term → Term → Type 0
Covers s t = (v : ℕ) → occurrences v t ≤ occurrences v s

-- no variable occurs
abbrev pub IsGround : Term → Type 0
IsGround t = (v : ℕ) → occurrences v t ≡ 0
