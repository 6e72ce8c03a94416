-- The Knuth-Bendix order (Baader and Nipkow, 'Term Rewriting and All That', section 5.4.4) in which each
-- variable and each symbol weighs 1, and symbols rank by their numbers.
use Rattle.std.specs.Prelude.{◌≡◌, ◌<◌, ◌⊎◌}
use Rattle.fo_terms.specs.Terms.{Term, Terms, variable, symbol, none, more, size}
use Rattle.fo_kbo.specs.Occurrences.{Covers}
use Rattle.fo_kbo.specs.declared.order.FoOrder.{FoOrder}
use Rattle.fo_kbo.specs.declared.order.FoOrder.TheVariants.{Less, Equal, Greater, Unordered}

-- each variable occurs at least as often, and the weight is larger, or is the same and the tie is won
abbrev pub Beats : Type 0 → Term → Term → Type 0
Beats tie s t = Covers s t × ((size t < size s) ⊎ ((size s ≡ size t) × tie))

-- a tie is won by the head with the larger number, and under equal heads by the first arguments that
-- differ; a variable wins and loses none
abbrev mutual
  pub IsGreater : Term → Term → Type 0
  IsGreater (variable v) t = Beats ⊥ (variable v) t
  IsGreater (symbol f ts) (variable w) = Beats ⊥ (symbol f ts) (variable w)
  IsGreater (symbol f ts) (symbol g us) = Beats ((g < f) ⊎ ((f ≡ g) × FirstIsGreater ts us)) (symbol f ts) (symbol g us)

  -- at the first place where the lists differ, the first list has the greater term
  pub FirstIsGreater : Terms → Terms → Type 0
  FirstIsGreater none us = ⊥
  FirstIsGreater (more t ts) none = ⊥
  FirstIsGreater (more t ts) (more u us) = IsGreater t u ⊎ ((t ≡ u) × FirstIsGreater ts us)

-- what the outcome of a comparison says of the terms
abbrev pub IsOrder : Term → Term → FoOrder → Type 0
IsOrder s t Less = IsGreater t s
IsOrder s t Equal = s ≡ t
IsOrder s t Greater = IsGreater s t
IsOrder s t Unordered = (IsGreater t s → ⊥) × (s ≡ t → ⊥) × (IsGreater s t → ⊥)
