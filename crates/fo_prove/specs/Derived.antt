-- Clauses with their origins: those of the text, and then conclusions of members over the clauses before.
use Rattle.std.specs.Prelude.{ℕ, List, [], ◌∷◌, ◌++◌, map}
use Rattle.fo_terms.specs.Terms.{Terms}
use Rattle.fo_text.specs.declared.problem.FoClause.{FoClause}
use Rattle.fo_text.specs.declared.problem.FoProblem.{FoProblem}
use Rattle.fo_super.specs.Members.{Member}
use Rattle.fo_super.specs.Conclusions.{IsDue}
use Rattle.fo_super.specs.Turns.{Origin, given, concluded}

pub data Derived (p : FoProblem) : List FoClause → List Origin → Type 0 where
  of_text : Derived p p.clauses (map (λ c. given) p.clauses)
  and_one : (cs : List FoClause) (os : List Origin) (m : Member) (vars : List ℕ) (terms : Terms) (instance c : FoClause) →
      Derived p cs os → IsDue p.sorts p.syms cs m vars terms instance c → Derived p (cs ++ c ∷ []) (os ++ concluded m vars terms ∷ [])
