-- A clause against which nothing is said.
use Rattle.std.proofs.Common.{ℕ, ◌≡◌, Bool, false, List, Option}
use Rattle.std.specs.Bool.{Decides}
use Rattle.leo_clause.specs.Trees.{ClauseTree}
use Rattle.leo_keep.specs.Tautologies.{IsTautology}
use Rattle.leo_keep.specs.Outcomes.{IsAdmitted, IsHeavy, LacksRoom}
use Rattle.leo_keep.proofs.Numbers.{refuted}

pub admitted : (clauses : List ClauseTree) (c : ClauseTree) (limit : Option ℕ) (t r h : Bool) → Decides t (IsTautology c.literals) → t ≡ false → Decides r (LacksRoom clauses c) → r ≡ false → Decides h (IsHeavy limit c) → h ≡ false → IsAdmitted clauses c limit
admitted clauses c limit t r h d e f g i j = record { no_tautology = refuted t d e; has_room = refuted r f g; not_heavy = refuted h i j }
