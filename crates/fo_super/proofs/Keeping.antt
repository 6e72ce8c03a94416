-- Kept clauses: which comes first, and what is against a clause.
use Rattle.std.proofs.Common.{ℕ, ◌≡◌, ◌≤◌, Bool, false, List, length, slice_get, Some}
use Rattle.std.specs.Bool.{Decides}
use Rattle.fo_text.specs.declared.problem.FoClause.{FoClause}
use Rattle.fo_super.specs.Tautologies.{IsTautology}
use Rattle.fo_super.specs.Outcomes.{HoldsOfNone, IsAdmitted, IsHeavy, IsLeast, LacksRoom}
use Rattle.fo_super.proofs.Answering.{NoneBelow, none-all, refuted}

pub least-at : (ks : List FoClause) (P : FoClause → Type 0) (n : ℕ) (k : FoClause) → NoneBelow P ks n → slice_get ks n ≡ Some k → P k → IsLeast P ks n
least-at ks P n k none e p = record { clause = k; stands = e; holds = p; least = none }

pub none-of : (ks : List FoClause) (P : FoClause → Type 0) (n : ℕ) → NoneBelow P ks n → length ks ≤ n → HoldsOfNone P ks
none-of ks P n h l = none-all P ks n h l

pub admitted : (clauses : List FoClause) (limit : ℕ) (instance c : FoClause) (t r h : Bool) → Decides t (IsTautology c.lits) → t ≡ false → Decides r (LacksRoom clauses c) → r ≡ false → Decides h (IsHeavy limit instance c) → h ≡ false → IsAdmitted clauses limit instance c
admitted clauses limit instance c t r h d e f g i j = record { no_tautology = refuted t d e; has_room = refuted r f g; not_heavy = refuted h i j }
