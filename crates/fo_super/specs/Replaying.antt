-- The lines of a member, replayed one after the other.
use Rattle.std.specs.Prelude.{ℕ, ◌≡◌, List, [], ◌∷◌, ◌++◌, length, Some, slice_get}
use Rattle.std.specs.List.{AllByRecursion}
use Rattle.fo_terms.specs.Terms.{Terms}
use Rattle.fo_text.specs.declared.problem.FoSym.{FoSym}
use Rattle.fo_text.specs.declared.problem.FoClause.{FoClause}
use Rattle.fo_text.specs.declared.answer.FoStep.{FoStep}
use Rattle.fo_text.specs.Problems.{IsLiteral}
use Rattle.fo_replay.specs.Replays.{Replays}
use Rattle.fo_super.specs.Members.{Member, resolve, factor, superpose}
use Rattle.fo_super.specs.Conclusions.{IsDue, lines}
use Rattle.fo_super.specs.Viewing.{NamesSorted}

-- steps replay, each over the clauses before it and those of the earlier steps, and these are their clauses
pub data ReplayInTurn (sorts : ℕ) (syms : List FoSym) : List FoClause → List FoStep → List FoClause → Type 0 where
  no_steps : {all : List FoClause} → ReplayInTurn sorts syms all [] []
  one_step : {all cs : List FoClause} {step : FoStep} {steps : List FoStep} {c : FoClause} → Replays sorts syms all step c → ReplayInTurn sorts syms (all ++ c ∷ []) steps cs → ReplayInTurn sorts syms all (step ∷ steps) (c ∷ cs)

-- the clause with this number has its line among others, and so many literals
abbrev pub StandsOn : (ℕ → ℕ) → (ℕ → ℕ) → List FoClause → List FoClause → ℕ → Type 0
StandsOn line literals clauses all c = (x : FoClause) → slice_get clauses c ≡ Some x → (slice_get all (line c) ≡ Some x) × (literals c ≡ length x.lits)

-- each clause that a member names
abbrev pub NamesStandOn : (ℕ → ℕ) → (ℕ → ℕ) → List FoClause → List FoClause → Member → Type 0
NamesStandOn line literals clauses all (resolve c i) = StandsOn line literals clauses all c
NamesStandOn line literals clauses all (factor c i s j r) = StandsOn line literals clauses all c
NamesStandOn line literals clauses all (superpose c i s d j r path) = StandsOn line literals clauses all c × StandsOn line literals clauses all d

-- the lines of a member that is due replay behind any clauses among which those that it names have their lines; the last two
-- clauses are the instance and the conclusion
abbrev pub MembersReplay : Type 0
MembersReplay = (sorts : ℕ) (syms : List FoSym) (clauses all : List FoClause) (line literals : ℕ → ℕ) (m : Member) (vars : List ℕ) (terms : Terms) (instance conclusion : FoClause) → NamesSorted syms clauses m → NamesStandOn line literals clauses all m →
    IsDue sorts syms clauses m vars terms instance conclusion → (before : List FoClause) × ReplayInTurn sorts syms all (lines line literals (length all) m vars terms) (before ++ instance ∷ conclusion ∷ [])

-- the same variables with their sorts, terms, instances and conclusions
pub record HaveOneConclusion (xs ys : List ℕ) (ts us : Terms) (i j d e : FoClause) : Type 0 where
  pub vars : xs ≡ ys
  pub terms : ts ≡ us
  pub instance : i ≡ j
  pub conclusion : d ≡ e

-- a member has one conclusion
abbrev pub MembersAreUnique : Type 0
MembersAreUnique = (sorts : ℕ) (syms : List FoSym) (clauses : List FoClause) (xs ys : List ℕ) (ts us : Terms) (i d j e : FoClause) (m : Member) → NamesSorted syms clauses m → IsDue sorts syms clauses m xs ts i d → IsDue sorts syms clauses m ys us j e → HaveOneConclusion xs ys ts us i j d e

-- both sides of each literal of the conclusion of a member over such clauses have one sort
abbrev pub MembersSort : Type 0
MembersSort = (sorts : ℕ) (syms : List FoSym) (clauses : List FoClause) (m : Member) (vars : List ℕ) (terms : Terms) (instance conclusion : FoClause) → NamesSorted syms clauses m →
    IsDue sorts syms clauses m vars terms instance conclusion → AllByRecursion (IsLiteral conclusion.vars syms) conclusion.lits
