-- Clauses that always hold.
use Rattle.std.specs.Prelude.{ℕ, ◌≡◌, true, false, List, slice_get, Some}
use Rattle.leo_terms.specs.Tree.{Tree, logic, absent, truth, falsity}
use Rattle.leo_clause.specs.Trees.{Literal}

-- `s = t` and `s ≠ t`
abbrev pub equal : Tree → Tree → Literal
equal s t = record { positive = true; left = s; right = t }

abbrev pub unequal : Tree → Tree → Literal
unequal s t = record { positive = false; left = s; right = t }

-- T and F
abbrev pub true_tree : Tree
true_tree = logic truth absent absent

abbrev pub false_tree : Tree
false_tree = logic falsity absent absent

-- one of two literals always holds: an equation and its negation, as it is or turned; a formula that is T and that is F
pub data Opposes : Literal → Literal → Type 0 where
  negated : (s t : Tree) → Opposes (equal s t) (unequal s t)
  turned : (s t : Tree) → Opposes (equal s t) (unequal t s)
  valued : (s : Tree) → Opposes (equal s true_tree) (equal s false_tree)

-- a literal opposes one of some
pub record IsOpposed (l : Literal) (others : List Literal) : Type 0 where
  pub place : ℕ
  pub other : Literal
  pub stands : slice_get others place ≡ Some other
  pub opposes : Opposes l other

-- the literal is `s = s`, or opposes one of some: it or that one always holds
pub data HoldsWith (l : Literal) (others : List Literal) : Type 0 where
  reflexive : (s : Tree) → l ≡ equal s s → HoldsWith l others
  opposed : IsOpposed l others → HoldsWith l others

-- one of the literals always holds
pub record IsTautology (literals : List Literal) : Type 0 where
  pub place : ℕ
  pub literal : Literal
  pub stands : slice_get literals place ≡ Some literal
  pub holds : HoldsWith literal literals
