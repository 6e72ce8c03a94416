-- Clauses that always hold.
use Rattle.std.specs.Prelude.{ℕ, ◌≡◌, true, false, List, slice_get, Some}
use Rattle.fo_terms.specs.Terms.{Term, symbol, none}
use Rattle.fo_text.specs.declared.problem.FoLit.{FoLit}

-- `s = t` and `s ≠ t`
abbrev pub equal : Term → Term → FoLit
equal s t = record { pos = true; left = s; right = t }

abbrev pub unequal : Term → Term → FoLit
unequal s t = record { pos = false; left = s; right = t }

-- the truth values T and F are the symbols 0 and 1
abbrev pub true_term : Term
true_term = symbol 0 none

abbrev pub false_term : Term
false_term = symbol 1 none

-- one of two literals always holds: an equation and its negation, as it is or turned; a formula that is T and that is F
pub data Opposes : FoLit → FoLit → Type 0 where
  negated : (s t : Term) → Opposes (equal s t) (unequal s t)
  turned : (s t : Term) → Opposes (equal s t) (unequal t s)
  valued : (s : Term) → Opposes (equal s true_term) (equal s false_term)

-- a literal opposes one of some
pub record IsOpposed (l : FoLit) (others : List FoLit) : Type 0 where
  pub place : ℕ
  pub other : FoLit
  pub stands : slice_get others place ≡ Some other
  pub opposes : Opposes l other

-- the literal is `s = s`, or opposes one of some: it or that one always holds
pub data HoldsWith (l : FoLit) (others : List FoLit) : Type 0 where
  reflexive : (s : Term) → l ≡ equal s s → HoldsWith l others
  opposed : IsOpposed l others → HoldsWith l others

-- one of the literals always holds
pub record IsTautology (literals : List FoLit) : Type 0 where
  pub place : ℕ
  pub literal : FoLit
  pub stands : slice_get literals place ≡ Some literal
  pub holds : HoldsWith literal literals
