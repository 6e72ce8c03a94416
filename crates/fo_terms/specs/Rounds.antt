-- One round of unification: equations are taken apart, and at most one variable is bound, or two classes
-- of places are made one.
use Rattle.std.specs.Prelude.{ℕ, ◌≡◌, ◌<◌, ◌+◌, List, All, length}
use Rattle.fo_terms.specs.declared.term.FoNode.{FoNode}
use Rattle.fo_terms.specs.declared.bindings.Binding.{Binding}
use Rattle.fo_terms.specs.declared.bindings.Equation.{Equation}
use Rattle.fo_terms.specs.declared.unify.Round.{Round}
use Rattle.fo_terms.specs.declared.unify.Round.TheVariants.{Solved, Refused, Further}
use Rattle.fo_terms.specs.Terms.{Term}
use Rattle.fo_terms.specs.Substitutions.{Substitution, apply}
use Rattle.fo_terms.specs.Bindings.{AreMade, IsLoose, open_places}
use Rattle.fo_terms.specs.Classes.{IsForest, roots}
use Rattle.fo_terms.specs.Solving.{IsWithin, IsState}

-- the round went further, and the state stands for the same unifiers
pub record IsFurther (ns : List FoNode) (left right : Term) (old new : List Binding) (ps qs : List ℕ) (work : List Equation) : Type 0 where
  pub made : AreMade ns new
  pub forest : IsForest qs
  pub as_long : length qs ≡ length ns
  pub within : All (IsWithin ns) work
  pub state : IsState ns new qs left right work
  pub fewer : open_places new ns + roots qs < open_places old ns + roots ps

abbrev pub IsRound : List FoNode → Term → Term → List Binding → List Binding → List ℕ → List ℕ → List Equation → Round → Type 0
IsRound ns left right old new ps qs work Solved = IsLoose ns new left right
IsRound ns left right old new ps qs work Refused = (r : Substitution) → apply r left ≡ apply r right → ⊥
IsRound ns left right old new ps qs work Further = IsFurther ns left right old new ps qs work
