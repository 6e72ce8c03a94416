-- What is so of outcomes, of numbers and of conclusions.
use Rattle.std.specs.Prelude.{ℕ, ◌≡◌, List, [], length, map, fold, false, Some, slice_get}
use Rattle.fo_text.specs.declared.problem.FoSym.{FoSym}
use Rattle.fo_text.specs.declared.problem.FoClause.{FoClause}
use Rattle.fo_super.specs.declared.outcomes.FoOutcome.{FoOutcome}
use Rattle.fo_super.specs.Outcomes.{OutcomeOf}
use Rattle.std.specs.List.{AllByRecursion}
use Rattle.fo_terms.specs.Terms.{Term, Terms}
use Rattle.fo_terms.specs.Substitutions.{Substitution, apply, IsMostGeneralUnifier}
use Rattle.fo_text.specs.Problems.{IsLiteral}
use Rattle.fo_text.specs.declared.answer.FoStep.TheVariants.{Inst, Drop}
use Rattle.fo_replay.specs.Replays.{instance_words, IsLiteralAt, Replays}
use Rattle.fo_text.specs.declared.problem.FoLit.{FoLit}
use Rattle.fo_super.specs.Conclusions.{IsResolved}
use Rattle.fo_super.specs.Numbering.{IsNumbered, renaming, renumbered, with_name}

-- a clause has one outcome
abbrev pub OutcomesAreUnique : Type 0
OutcomesAreUnique = (syms : List FoSym) (clauses : List FoClause) (limit : ℕ) (instance c : FoClause) (o p : FoOutcome) → OutcomeOf syms clauses limit instance c o → OutcomeOf syms clauses limit instance c p → o ≡ p

-- variables that are renumbered by the names that are met, each once, are numbered by first occurrence
abbrev pub NumbersByOccurrence : Type 0
NumbersByOccurrence = (vs : List ℕ) → IsNumbered 0 (map (renumbered (fold with_name [] vs)) vs) (length (fold with_name [] vs))

-- a most general unifier stays one once its variables are renumbered
abbrev pub RenumberedUnifiersAreGeneral : Type 0
RenumberedUnifiersAreGeneral = (names : List ℕ) (s : Substitution) (t u : Term) → IsMostGeneralUnifier s t u → IsMostGeneralUnifier (λ v. apply (renaming names) (s v)) t u

-- both sides of each literal of a clause have one sort
abbrev pub AreSorted : List FoSym → List FoClause → ℕ → Type 0
AreSorted syms clauses c = (clause : FoClause) → slice_get clauses c ≡ Some clause → AllByRecursion (IsLiteral clause.vars syms) clause.lits

-- such a clause is resolved on a literal in one way: the terms of the instance are fixed
abbrev pub ResolutionsAreUnique : Type 0
ResolutionsAreUnique = (sorts : ℕ) (syms : List FoSym) (clauses : List FoClause) (c k : ℕ) (vars wars : List ℕ) (terms others : Terms) (i d j e : FoClause) → AreSorted syms clauses c →
    IsResolved sorts syms clauses c k vars terms i d → IsResolved sorts syms clauses c k wars others j e → terms ≡ others

-- a line for the instance replays wherever the clause has a line
abbrev pub InstancesReplay : Type 0
InstancesReplay = (sorts : ℕ) (syms : List FoSym) (clauses all : List FoClause) (c k n : ℕ) (clause : FoClause) (vars : List ℕ) (terms : Terms) (i d : FoClause) →
    IsResolved sorts syms clauses c k vars terms i d → slice_get clauses c ≡ Some clause → slice_get all n ≡ Some clause → Replays sorts syms all (Inst n (instance_words vars terms)) i

-- and a line for the conclusion wherever the instance has one, where the literal is negative
abbrev pub ConclusionsReplay : Type 0
ConclusionsReplay = (sorts : ℕ) (syms : List FoSym) (clauses all : List FoClause) (c k n : ℕ) (clause : FoClause) (literal : FoLit) (vars : List ℕ) (terms : Terms) (i d : FoClause) → AreSorted syms clauses c →
    IsResolved sorts syms clauses c k vars terms i d → IsLiteralAt clauses c k clause literal → literal.pos ≡ false → slice_get all n ≡ Some i → Replays sorts syms all (Drop n k) d
