-- What the names of a problem stand for.
use Rattle.std.specs.Prelude.{ℕ, List, [], ◌∷◌, length, Option, Some, None, if◌then◌else◌}
use Rattle.std.specs.Str.{bytes_eq}
use Rattle.leo_q0.specs.Terms.{SimpleType, Variable}

-- a constant of Q0, by its number and its type
pub record Constant : Type 0 where
  pub number : ℕ
  pub type : SimpleType

-- the atoms that are declared: each is a type or a constant
pub record Declared : Type 0 where
  pub types : List (List ℕ × SimpleType)
  pub constants : List (List ℕ × Constant)

-- what a name stands for in a list of pairs: the first pair with that name counts
abbrev pub named : {A : Type 0} → List ℕ → List (List ℕ × A) → Option A
named name [] = None
named name (p ∷ ps) = if bytes_eq name p.0 then Some p.1 else named name ps

-- the variables of the binders around a place, by name and type; the innermost comes first
abbrev pub Scope : Type 0
Scope = List (List ℕ × SimpleType)

-- a variable of Q0 with the number of the binders' variables that stand around it
abbrev pub outside : Scope → SimpleType → Variable
outside scope a = record { number = length scope; type = a }

-- the variable that a name stands for: the innermost of that name counts
abbrev pub bound_to : List ℕ → Scope → Option Variable
bound_to name [] = None
bound_to name (v ∷ scope) = if bytes_eq name v.0 then Some (outside scope v.1) else bound_to name scope
