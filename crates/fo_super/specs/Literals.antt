-- The order on literals: that of the multisets of their sides.
use Rattle.std.specs.Prelude.{ℕ, ◌≡◌, ◌<◌, Bool, false, ◌&&◌, nat_eq, List, [], ◌∷◌, Some, slice_get, count_by, if◌then◌else◌}
use Rattle.fo_terms.specs.Terms.{Term, Terms, variable, symbol, none, more}
use Rattle.fo_text.specs.declared.problem.FoLit.{FoLit}
use Rattle.fo_kbo.specs.Order.{IsGreater}

-- whether two terms are one
abbrev mutual
  pub same_term : Term → Term → Bool
  same_term (variable v) (variable w) = nat_eq v w
  same_term (variable v) (symbol g us) = false
  same_term (symbol f ts) (variable w) = false
  same_term (symbol f ts) (symbol g us) = nat_eq f g && same_terms ts us

  pub same_terms : Terms → Terms → Bool
  same_terms none none = nat_eq 0 0
  same_terms none (more u us) = false
  same_terms (more t ts) none = false
  same_terms (more t ts) (more u us) = same_term t u && same_terms ts us

-- the sides of a literal: those of a positive one stand once, those of a negative one twice
abbrev pub sides : FoLit → List Term
sides l = if l.pos then l.left ∷ l.right ∷ [] else l.left ∷ l.left ∷ l.right ∷ l.right ∷ []

-- how often the term stands among some
abbrev pub times : Term → List Term → ℕ
times t ts = count_by (same_term t) ts

-- a term that stands more often among the first, and is greater than this one
abbrev pub IsCoveredBy : List Term → List Term → Term → Type 0
IsCoveredBy ms ns x = (y : Term) × (times y ns < times y ms) × IsGreater y x

-- the multisets differ, and for each term that the second has more often the first has a greater one more often
pub record IsMultisetGreater (ms ns : List Term) : Type 0 where
  pub term : Term
  pub differ : times term ms ≡ times term ns → ⊥
  pub covered : (x : Term) → times x ms < times x ns → IsCoveredBy ms ns x

abbrev pub IsLiteralGreater : FoLit → FoLit → Type 0
IsLiteralGreater l k = IsMultisetGreater (sides l) (sides k)

-- none of the literals is greater
abbrev pub IsMaximal : List FoLit → FoLit → Type 0
IsMaximal ls l = (j : ℕ) (k : FoLit) → slice_get ls j ≡ Some k → IsLiteralGreater k l → ⊥
