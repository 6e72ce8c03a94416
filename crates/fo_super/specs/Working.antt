-- What the calls that work a member say to one another. No public contract speaks of it.
use Rattle.std.specs.Prelude.{ℕ, ◌≡◌, List, [], ◌∷◌, Some, slice_get}
use Rattle.fo_terms.specs.Terms.{Terms}
use Rattle.fo_terms.specs.Substitutions.{Substitution}
use Rattle.fo_text.specs.declared.problem.FoSym.{FoSym}
use Rattle.fo_text.specs.declared.problem.FoLit.{FoLit}
use Rattle.fo_text.specs.declared.problem.FoClause.{FoClause}
use Rattle.fo_text.specs.declared.answer.FoSide.{FoSide}
use Rattle.fo_text.specs.declared.answer.FoStep.{FoStep}
use Rattle.fo_replay.specs.Replays.{moved, Replays}
use Rattle.fo_super.specs.Conclusions.{IsMaximalUnder, IsSideUnder, IsResolved}

-- a literal is maximal among some, and this side of it is not below the other one
abbrev pub IsLeadingUnder : Substitution → List FoLit → FoSide → FoLit → Type 0
IsLeadingUnder s ls side l = IsMaximalUnder s ls l × IsSideUnder s side l

-- the literal at a place of a clause is so, once its variables are numbered after so many others
pub record IsLeadingInto (s : Substitution) (n : ℕ) (receiver : FoClause) (place : ℕ) (side : FoSide) : Type 0 where
  pub literal : FoLit
  pub stands : slice_get (moved n receiver) place ≡ Some literal
  pub leading : IsLeadingUnder s (moved n receiver) side literal

-- what a step gives is resolved on a literal
pub record IsWorked (sorts : ℕ) (syms : List FoSym) (clauses : List FoClause) (step : FoStep) (place : ℕ) (vars : List ℕ) (terms : Terms) (instance conclusion : FoClause) : Type 0 where
  pub made : FoClause
  pub replays : Replays sorts syms clauses step made
  pub resolved : IsResolved sorts syms (made ∷ []) 0 place vars terms instance conclusion
