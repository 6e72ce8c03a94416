-- The order of two terms that begin at one place of two lists, from the first place where the lists
-- differ outward.
use Rattle.std.specs.Prelude.{ℕ, suc, ◌≡◌, ◌<◌, ◌≤◌, ◌+◌, List, Some, slice_get}
use Rattle.fo_terms.specs.declared.term.FoNode.{FoNode}
use Rattle.fo_terms.specs.declared.term.FoNode.TheVariants.{Sym}
use Rattle.fo_terms.specs.Terms.{count, first_terms, terms_after}
use Rattle.fo_terms.specs.Places.{terms_at, term_at, arguments_of, IsBehind}
use Rattle.fo_kbo.specs.declared.order.FoOrder.{FoOrder}
use Rattle.fo_kbo.specs.declared.order.FoOrder.TheVariants.{Less, Equal, Greater, Unordered}
use Rattle.fo_kbo.specs.declared.heads.Heads.{Heads}
use Rattle.fo_kbo.specs.declared.heads.Heads.TheVariants.{First, Second, Apart}
use Rattle.fo_kbo.specs.declared.outward.Level.{Level}
use Rattle.fo_kbo.specs.declared.outward.Turn.{Turn}
use Rattle.fo_kbo.specs.declared.outward.Turn.TheVariants.{Passed, Opened}
use Rattle.fo_kbo.specs.Order.{IsOrder}

-- the lists are the same before a place
abbrev pub AreSameBefore : List FoNode → List FoNode → ℕ → Type 0
AreSameBefore ns ms at = (i : ℕ) → i < at → slice_get ns i ≡ slice_get ms i

-- different terms begin at a place, in this order
pub record AreOrdered (ns ms : List FoNode) (l : Level) : Type 0 where
  pub left : IsBehind ns l.at l.left_end
  pub right : IsBehind ms l.at l.right_end
  pub different : term_at ns l.at ≡ term_at ms l.at → ⊥
  pub order : IsOrder (term_at ns l.at) (term_at ms l.at) l.order

-- so many equal terms stand from one place up to another
pub record ArePassed (ns ms : List FoNode) (here at passed : ℕ) : Type 0 where
  pub few : passed + here ≤ at
  pub same : first_terms passed (terms_at ns here) ≡ first_terms passed (terms_at ms here)
  pub left : terms_after passed (terms_at ns here) ≡ terms_at ns at
  pub right : terms_after passed (terms_at ms here) ≡ terms_at ms at
  pub left_enough : passed ≤ count (terms_at ns here)
  pub right_enough : passed ≤ count (terms_at ms here)

-- what a node before so many terms makes of them: it has its arguments among them, or lacks some behind one more
abbrev pub IsTurn : FoNode → ℕ → Turn → Type 0
IsTurn n passed (Passed now) = (arguments_of n ≤ passed) × (now + arguments_of n ≡ passed + 1)
IsTurn n passed (Opened missing) = passed + suc missing ≡ arguments_of n

-- a symbol stands before the terms at a level, which are arguments of it, and so many more behind them
pub record IsOver (ns ms : List FoNode) (l : Level) (here missing : ℕ) : Type 0 where
  pub symbol : ℕ
  pub arguments : ℕ
  pub passed : ℕ
  pub left_is : slice_get ns here ≡ Some (Sym symbol arguments)
  pub right_is : slice_get ms here ≡ Some (Sym symbol arguments)
  pub counted : passed + suc missing ≡ arguments
  pub behind : ArePassed ns ms (suc here) l.at passed

-- what an order of arguments says of terms with equal heads and weights, if their variables allow it
abbrev pub heads_of : FoOrder → Heads
heads_of Less = Second
heads_of Equal = Apart
heads_of Greater = First
heads_of Unordered = Apart
