-- The laws of the order.
use Rattle.std.specs.Prelude.{◌≡◌, ◌⊎◌}
use Rattle.fo_terms.specs.Terms.{Term}
use Rattle.fo_terms.specs.Substitutions.{Substitution, apply}
use Rattle.fo_kbo.specs.Occurrences.{IsGround}
use Rattle.fo_kbo.specs.Order.{IsGreater}

abbrev pub IsIrreflexive : Type 0
IsIrreflexive = (t : Term) → IsGreater t t → ⊥

abbrev pub IsTransitive : Type 0
IsTransitive = (s t u : Term) → IsGreater s t → IsGreater t u → IsGreater s u

abbrev pub IsStable : Type 0
IsStable = (r : Substitution) (s t : Term) → IsGreater s t → IsGreater (apply r s) (apply r t)

abbrev pub IsTotalOnGround : Type 0
IsTotalOnGround = (s t : Term) → IsGround s → IsGround t → IsGreater s t ⊎ ((s ≡ t) ⊎ IsGreater t s)
