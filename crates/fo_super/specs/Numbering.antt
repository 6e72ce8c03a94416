-- Variables that are numbered by first occurrence.
use Rattle.std.specs.Prelude.{ℕ, suc, ◌≡◌, ◌+◌, ◌<◌, ◌⊎◌, List, [], ◌∷◌, ◌++◌, length, nat_eq, if◌then◌else◌}
use Rattle.std.specs.List.{flat_map, list_any}
use Rattle.fo_terms.specs.declared.term.FoNode.{FoNode}
use Rattle.fo_terms.specs.declared.term.FoNode.TheVariants.{Var, Sym}
use Rattle.fo_terms.specs.Substitutions.{Substitution}
use Rattle.fo_terms.specs.Terms.{Term, Terms, variable, symbol, none, more}
use Rattle.fo_text.specs.declared.problem.FoLit.{FoLit}

-- the variables of a term from left to right, each as often as it occurs
abbrev mutual
  pub variables : Term → List ℕ
  variables (variable v) = v ∷ []
  variables (symbol f ts) = variables_of_all ts

  pub variables_of_all : Terms → List ℕ
  variables_of_all none = []
  variables_of_all (more t ts) = variables t ++ variables_of_all ts

abbrev pub literal_variables : FoLit → List ℕ
literal_variables l = variables l.left ++ variables l.right

abbrev pub clause_variables : List FoLit → List ℕ
clause_variables ls = flat_map literal_variables ls

-- each number is the next new one or one before that; in the end so many are met
abbrev pub IsNumbered : ℕ → List ℕ → ℕ → Type 0
IsNumbered next [] n = next ≡ n
IsNumbered next (v ∷ vs) n = ((v < next) × IsNumbered next vs n) ⊎ ((v ≡ next) × IsNumbered (suc next) vs n)

-- the variable of a node, if it has one
abbrev pub node_variables : FoNode → List ℕ
node_variables (Var v) = v ∷ []
node_variables (Sym f k) = []

-- the names with one more at the end, unless it is there
abbrev pub with_name : List ℕ → ℕ → List ℕ
with_name ns v = if list_any (nat_eq v) ns then ns else ns ++ v ∷ []

-- the place at which a name stands first, or how many names there are
abbrev pub place_in : List ℕ → ℕ → ℕ
place_in [] v = 0
place_in (n ∷ ns) v = if nat_eq v n then 0 else suc (place_in ns v)

-- a variable becomes the place of its name, and one without a name a number behind all places
abbrev pub renumbered : List ℕ → ℕ → ℕ
renumbered ns v = if list_any (nat_eq v) ns then place_in ns v else length ns + v

abbrev pub renaming : List ℕ → Substitution
renaming ns v = variable (renumbered ns v)
