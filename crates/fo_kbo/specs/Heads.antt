-- What the weights and the heads of two terms say of their order.
use Rattle.std.specs.Prelude.{ℕ, ◌≡◌}
use Rattle.fo_terms.specs.Terms.{Term, Terms, symbol, size}
use Rattle.fo_kbo.specs.declared.heads.Heads.{Heads}
use Rattle.fo_kbo.specs.declared.heads.Heads.TheVariants.{First, Second, Apart, Same}
use Rattle.fo_kbo.specs.Occurrences.{Covers}
use Rattle.fo_kbo.specs.Order.{IsGreater}

-- weights and heads are the same
pub record HaveSameHeads (s t : Term) : Type 0 where
  pub number : ℕ
  pub left : Terms
  pub right : Terms
  pub left_is : s ≡ symbol number left
  pub right_is : t ≡ symbol number right
  pub same_size : size s ≡ size t

abbrev pub IsHeads : Term → Term → Heads → Type 0
IsHeads s t First = (Covers s t → IsGreater s t) × (IsGreater t s → ⊥)
IsHeads s t Second = (Covers t s → IsGreater t s) × (IsGreater s t → ⊥)
IsHeads s t Apart = (IsGreater s t → ⊥) × (IsGreater t s → ⊥)
IsHeads s t Same = HaveSameHeads s t
