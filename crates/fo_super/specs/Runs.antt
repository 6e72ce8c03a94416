-- The state of the machine as its code has it, and the searches that turns lead to.
use Rattle.std.specs.Prelude.{ℕ, ◌≡◌, ◌+◌, ◌<◌, ◌≤◌, List, [], ◌∷◌, length, map, slice_get, Some}
use Rattle.std.specs.List.{AllByRecursion}
use Rattle.fo_text.specs.declared.problem.FoSym.{FoSym}
use Rattle.fo_text.specs.declared.problem.FoClause.{FoClause}
use Rattle.fo_text.specs.declared.problem.FoProblem.{FoProblem}
use Rattle.fo_text.specs.Problems.{IsLiteral}
use Rattle.fo_text.specs.Words.{most_number}
use Rattle.fo_replay.specs.Instances.{as_terms}
use Rattle.fo_super.specs.declared.state.FoOrigin.{FoOrigin}
use Rattle.fo_super.specs.declared.state.FoOrigin.TheVariants as variant
use Rattle.fo_super.specs.declared.state.FoState.{FoState}
use Rattle.fo_super.specs.Turns.{Origin, given, concluded, Search, start, IsTurn}
use Rattle.fo_super.specs.Viewing.{member_of}
use Rattle.fo_super.specs.Notes.{AreMoreNotes, AreNotes}
use Rattle.fo_super.specs.Passives.{IsFrontOf, IsRisingFrom}

abbrev pub origin_of : FoOrigin → Origin
origin_of variant.Given = given
origin_of (variant.Concluded m vars terms) = concluded (member_of m) vars (as_terms terms)

abbrev pub search_of : FoState → Search
search_of s = record { clauses = s.clauses; origins = map origin_of s.origins; passive = s.passive; turns = s.turns }

-- turns lead from the start to this search
pub data IsRunOf (p : FoProblem) : Search → Type 0 where
  started : IsRunOf p (start p)
  turned : {old new : Search} → IsRunOf p old → IsTurn p old new → IsRunOf p new

-- a clause that is kept has not too many literals, and both sides of each have one sort
pub record IsFit (syms : List FoSym) (c : FoClause) : Type 0 where
  pub few : length c.lits ≤ most_number
  pub sorted : AllByRecursion (IsLiteral c.vars syms) c.lits

-- a state to which turns lead; its passive numbers rise and name kept clauses, and its notes are on these
pub record IsState (s : FoState) : Type 0 where
  pub run : IsRunOf s.problem (search_of s)
  pub count : length s.clauses ≤ most_number
  pub fit : AllByRecursion (IsFit s.problem.syms) s.clauses
  pub rising : IsRisingFrom 0 s.passive
  pub named : AllByRecursion (λ n. n < length s.clauses) s.passive
  pub notes : AreNotes s.notes s.clauses

-- a state with more clauses and origins, and else the same
pub record IsGrown (old new : FoState) : Type 0 where
  pub problem : new.problem ≡ old.problem
  pub passive : new.passive ≡ old.passive
  pub turns : new.turns ≡ old.turns
  pub clauses : IsFrontOf old.clauses new.clauses
  pub origins : IsFrontOf old.origins new.origins
  pub notes : AreMoreNotes old.notes new.notes

-- the search of a state after a turn, with these passive clauses
abbrev pub search_after : FoState → List ℕ → Search
search_after s ns = record { clauses = s.clauses; origins = map origin_of s.origins; passive = ns; turns = s.turns + 1 }
