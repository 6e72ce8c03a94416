-- The types of functions of variables. No public contract speaks of it.
use Rattle.std.specs.Prelude.{ℕ, List, [], ◌∷◌}
use Rattle.leo_q0.specs.Terms.{SimpleType, arrow}
use Rattle.leo_clause.specs.Arranging.{variable_type}

abbrev pub function_type : List SimpleType → List ℕ → SimpleType → SimpleType
function_type variables [] a = a
function_type variables (n ∷ ns) a = arrow (variable_type variables n) (function_type variables ns a)
