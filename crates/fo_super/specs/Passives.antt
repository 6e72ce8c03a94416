-- Lists of clauses' numbers.
use Rattle.std.specs.Prelude.{ℕ, suc, ◌≡◌, ◌≤◌, ◌++◌, ◌⊎◌, Bool, List, [], ◌∷◌, Some, filter, map, nat_eq, not, slice_get}
use Rattle.std.specs.List.{list_any, AllByRecursion}
use Rattle.fo_text.specs.declared.problem.FoClause.{FoClause}
use Rattle.fo_super.specs.Turns.{numbers_from, IsBefore}

-- the numbers rise, and none is below this one
abbrev pub IsRisingFrom : ℕ → List ℕ → Type 0
IsRisingFrom n [] = Unit {0}
IsRisingFrom n (x ∷ xs) = (n ≤ x) × IsRisingFrom (suc x) xs

-- the numbers from one on, so many, that are not among these
abbrev pub others_from : ℕ → ℕ → List ℕ → List ℕ
others_from n k ns = filter (λ m. not (list_any (nat_eq m) ns)) (numbers_from n k)

-- the numbers without one
abbrev pub without : ℕ → List ℕ → List ℕ
without g ns = filter (λ n. not (nat_eq n g)) ns

-- the second list begins with the first
abbrev pub IsFrontOf : {X : Type 0} → List X → List X → Type 0
IsFrontOf {X} xs ys = (more : List X) × (ys ≡ xs ++ more)

-- clauses with their numbers, by the list of these
abbrev pub ArePartners : List FoClause → List ℕ → List (ℕ × FoClause) → Type 0
ArePartners clauses ns ps = (ns ≡ map (λ p. p.0) ps) × AllByRecursion (λ p. slice_get clauses p.0 ≡ Some p.1) ps

-- the clause at the place is the first of these passive ones
pub record IsFirst (by_number : Bool) (clauses : List FoClause) (passive : List ℕ) (g : ℕ) : Type 0 where
  pub clause : FoClause
  pub place : ℕ
  pub stands : slice_get passive place ≡ Some g
  pub clause_at : slice_get clauses g ≡ Some clause
  pub first : (i n : ℕ) → slice_get passive i ≡ Some n → (n ≡ g) ⊎ IsBefore by_number clauses g n
