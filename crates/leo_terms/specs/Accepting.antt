-- Which arguments a logical constant takes.
use Rattle.std.specs.Prelude.{ℕ, ◌≤◌, List, length, slice_get}
use Rattle.leo_terms.specs.declared.node.Op.{Op}
use Rattle.leo_terms.specs.Contents.{Contents, Takes, argument_type, operator_type}

-- at most two, of the types that it asks for
pub record AreAccepted (c : Contents) (o : Op) (xs : List ℕ) : Type 0 where
  pub few : length xs ≤ 2
  pub typed : Takes c o (argument_type c (slice_get xs 0)) (argument_type c (slice_get xs 1)) (operator_type o)
