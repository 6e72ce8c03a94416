-- The first arguments in which two terms with equal weights and heads differ.
use Rattle.std.specs.Prelude.{ℕ, Bool, true, ◌≡◌, ◌<◌, ◌≤◌, List, length, slice_range}
use Rattle.fo_terms.specs.declared.term.FoNode.{FoNode}
use Rattle.fo_terms.specs.Terms.{Term, size_of_all}
use Rattle.fo_terms.specs.Prefix.{prefix, term_of}
use Rattle.fo_terms.specs.Places.{terms_at}
use Rattle.fo_kbo.specs.declared.difference.Difference.{Difference}
use Rattle.fo_kbo.specs.Occurrences.{Covers}
use Rattle.fo_kbo.specs.Order.{IsGreater, FirstIsGreater}

-- two different terms whose order is that of the whole, but for the variables
pub record IsDifference (ns ms : List FoNode) (d : Difference) : Type 0 where
  pub left : Term
  pub right : Term
  pub left_is : slice_range ns d.at d.left_end ≡ prefix left
  pub right_is : slice_range ms d.at d.right_end ≡ prefix right
  pub left_within : d.left_end ≤ length ns
  pub right_within : d.right_end ≤ length ms
  pub left_some : d.at < d.left_end
  pub right_some : d.at < d.right_end
  pub behind : 0 < d.at
  pub different : left ≡ right → ⊥
  pub greater_from : IsGreater (term_of ns) (term_of ms) → IsGreater left right
  pub greater_back : Covers (term_of ns) (term_of ms) → IsGreater left right → IsGreater (term_of ns) (term_of ms)
  pub less_from : IsGreater (term_of ms) (term_of ns) → IsGreater right left
  pub less_back : Covers (term_of ms) (term_of ns) → IsGreater right left → IsGreater (term_of ms) (term_of ns)

-- the arguments from a place on differ, and are in the order of all arguments
pub record IsRest (ns ms : List FoNode) (at : ℕ) : Type 0 where
  pub behind : 0 < at
  pub same_size : size_of_all (terms_at ns at) ≡ size_of_all (terms_at ms at)
  pub different : terms_at ns at ≡ terms_at ms at → ⊥
  pub greater_from : FirstIsGreater (terms_at ns 1) (terms_at ms 1) → FirstIsGreater (terms_at ns at) (terms_at ms at)
  pub greater_back : FirstIsGreater (terms_at ns at) (terms_at ms at) → FirstIsGreater (terms_at ns 1) (terms_at ms 1)
  pub less_from : FirstIsGreater (terms_at ms 1) (terms_at ns 1) → FirstIsGreater (terms_at ms at) (terms_at ns at)
  pub less_back : FirstIsGreater (terms_at ms at) (terms_at ns at) → FirstIsGreater (terms_at ms 1) (terms_at ns 1)

-- two parts of two terms have the order of these, where it may still be the one or the other
pub record IsLevel (s t left right : Term) (may_be_greater may_be_less : Bool) : Type 0 where
  pub different : left ≡ right → ⊥
  pub greater_from : IsGreater s t → (may_be_greater ≡ true) × IsGreater left right
  pub greater_back : may_be_greater ≡ true → IsGreater left right → IsGreater s t
  pub less_from : IsGreater t s → (may_be_less ≡ true) × IsGreater right left
  pub less_back : may_be_less ≡ true → IsGreater right left → IsGreater t s
