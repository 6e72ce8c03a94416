-- What a contract sees of slots.
use Rattle.std.specs.Prelude.{ℕ, List}

-- the number of slots, and the lists that some of them stand in
pub record Lists : Type 0 where
  pub slots : ℕ
  pub lists : List (List ℕ)
