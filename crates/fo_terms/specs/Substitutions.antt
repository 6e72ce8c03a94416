-- Substitutions, unifiers and most general unifiers (Baader and Nipkow, 'Term Rewriting and All That',
-- sections 3.1 and 4.5). A substitution gives each variable its term; all are replaced at once.
use Rattle.std.specs.Prelude.{ℕ, ◌≡◌, List, [], ◌∷◌, Some, slice_get, nat_eq, if◌then◌else◌}
use Rattle.fo_terms.specs.Terms.{Term, Terms, variable, symbol, none, more}

abbrev pub Substitution : Type 0
Substitution = ℕ → Term

abbrev mutual
  pub apply : Substitution → Term → Term
  apply s (variable v) = s v
  apply s (symbol f ts) = symbol f (apply_to_all s ts)

  pub apply_to_all : Substitution → Terms → Terms
  apply_to_all s none = none
  apply_to_all s (more t ts) = more (apply s t) (apply_to_all s ts)

-- the substitution makes both terms one
abbrev pub IsUnifier : Substitution → Term → Term → Type 0
IsUnifier s t u = apply s t ≡ apply s u

-- a unifier of which each unifier is an instance
pub record IsMostGeneralUnifier (s : Substitution) (t u : Term) : Type 0 where
  pub unifies : IsUnifier s t u
  pub general : (other : Substitution) → IsUnifier other t u → (rest : Substitution) × ((v : ℕ) → other v ≡ apply rest (s v))

-- applying it again changes nothing more
abbrev pub IsIdempotent : Substitution → Type 0
IsIdempotent s = (v : ℕ) → apply s (s v) ≡ s v

-- the substitution of pairs of a variable with its term
abbrev pub image : List (ℕ × Term) → Substitution
image [] v = variable v
image (p ∷ ps) v = if nat_eq v p.0 then p.1 else image ps v

-- no variable has two pairs
abbrev pub IsOnce : List (ℕ × Term) → Type 0
IsOnce ps = (i j : ℕ) (p q : ℕ × Term) → slice_get ps i ≡ Some p → slice_get ps j ≡ Some q → p.0 ≡ q.0 → i ≡ j
