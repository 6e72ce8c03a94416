-- When a step is accepted after earlier lines, and the reason for which it is refused.
use Rattle.std.specs.Prelude.{ℕ, ◌≡◌, ◌++◌, List, [], take, slice_get, Some}
use Rattle.leo_terms.specs.Tree.{Tree}
use Rattle.leo_kernel.specs.declared.reason.Reason.{Reason}
use Rattle.leo_kernel.specs.declared.reason.Reason.TheVariants as reason
use Rattle.leo_kernel.specs.Steps.{Line}
use Rattle.leo_kernel.specs.Conditions.{HasParents, HasLiterals, HasPlace, HasTypes}
use Rattle.leo_kernel.specs.Symbols.{HasSymbol}
use Rattle.leo_kernel.specs.Conclusions.{HasShape}

-- what must hold, lest the step be refused for this reason
abbrev pub Holds : List Tree → List Line → Line → Reason → Type 0
Holds hypotheses lines step reason.Parent = HasParents hypotheses lines step.rule
Holds hypotheses lines step reason.Literal = HasLiterals lines step.rule
Holds hypotheses lines step reason.Place = HasPlace lines step.rule
Holds hypotheses lines step reason.Types = HasTypes lines step
Holds hypotheses lines step reason.Symbol = HasSymbol hypotheses lines step.clause step.rule
Holds hypotheses lines step reason.Shape = HasShape hypotheses lines step.clause step.rule
Holds hypotheses lines step reason.NoEmpty = Unit {0}

-- the step is the conclusion of its rule from the lines and the hypotheses
pub record Accepts (hypotheses : List Tree) (lines : List Line) (step : Line) : Type 0 where
  pub parents : HasParents hypotheses lines step.rule
  pub literals : HasLiterals lines step.rule
  pub place : HasPlace lines step.rule
  pub types : HasTypes lines step
  pub symbols : HasSymbol hypotheses lines step.clause step.rule
  pub shape : HasShape hypotheses lines step.clause step.rule

-- all that is asked before this
abbrev pub HoldsBefore : List Tree → List Line → Line → Reason → Type 0
HoldsBefore hypotheses lines step reason.Parent = Unit {0}
HoldsBefore hypotheses lines step reason.Literal = HasParents hypotheses lines step.rule
HoldsBefore hypotheses lines step reason.Place = HasParents hypotheses lines step.rule × HasLiterals lines step.rule
HoldsBefore hypotheses lines step reason.Types = HasParents hypotheses lines step.rule × HasLiterals lines step.rule × HasPlace lines step.rule
HoldsBefore hypotheses lines step reason.Symbol = HasParents hypotheses lines step.rule × HasLiterals lines step.rule × HasPlace lines step.rule × HasTypes lines step
HoldsBefore hypotheses lines step reason.Shape = HasParents hypotheses lines step.rule × HasLiterals lines step.rule × HasPlace lines step.rule × HasTypes lines step × HasSymbol hypotheses lines step.clause step.rule
HoldsBefore hypotheses lines step reason.NoEmpty = Accepts hypotheses lines step

-- this is the first that does not hold
pub record IsRefusedFor (hypotheses : List Tree) (lines : List Line) (step : Line) (reason : Reason) : Type 0 where
  pub before : HoldsBefore hypotheses lines step reason
  pub fails : Holds hypotheses lines step reason → ⊥

-- each line is accepted after those before it
abbrev pub AreAccepted : List Tree → List Line → Type 0
AreAccepted hypotheses lines = (n : ℕ) (step : Line) → slice_get lines n ≡ Some step → Accepts hypotheses (take n lines) step

-- each new line is accepted, from no hypotheses, after the first lines and the new ones before it
abbrev pub AreAcceptedAfter : List Line → List Line → Type 0
AreAcceptedAfter first new = (n : ℕ) (step : Line) → slice_get new n ≡ Some step → Accepts [] (first ++ take n new) step
