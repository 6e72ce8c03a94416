-- A variable that is applied to different indices, and what it becomes.
use Rattle.std.specs.Prelude.{ℕ, ◌+◌, ◌-◌, nat_lt, nat_eq, Bool, true, not, ◌&&◌, ◌||◌, if◌then◌else◌, List, [], ◌∷◌, ◌++◌, Option, Some, None}
use Rattle.std.specs.Option.{option_and_then}
use Rattle.std.specs.List.{list_any}
use Rattle.leo_q0.specs.Terms.{SimpleType}
use Rattle.leo_terms.specs.Tree.{Tree, variable, bound, symbol, app, lam, logic, absent, type_of}
use Rattle.leo_terms.specs.NormalForm.{eta_long}
use Rattle.leo_clause.specs.Sameness.{same_tree}
use Rattle.leo_clause.specs.Arranging.{place_in}

-- the loose index at the head of a term under `depth` of its lambdas
abbrev pub index_at_head : ℕ → Tree → Option ℕ
index_at_head depth (lam a t) = index_at_head (depth + 1) t
index_at_head depth (app f x) = index_at_head depth f
index_at_head depth (bound i a) = if nat_lt i depth then None else Some (i - depth)
index_at_head depth (variable n a) = None
index_at_head depth (symbol s a) = None
index_at_head depth (logic c x y) = None
index_at_head depth absent = None

-- the index of which the term is the eta-long form
abbrev pub long_index : Tree → Option ℕ
long_index t =
    option_and_then (λ (i : ℕ). if same_tree t (eta_long (bound i (type_of t))) then Some i else None) (index_at_head 0 t)

-- a variable, and the indices that it is applied to with their types, the last argument first
pub record Pattern : Type 0 where
  pub number : ℕ
  pub order : List ℕ
  pub types : List SimpleType

-- the index of which the term is the eta-long form, if it is none of these
abbrev pub new_index : List ℕ → Tree → Option ℕ
new_index order t = option_and_then (λ (i : ℕ). if list_any (nat_eq i) order then None else Some i) (long_index t)

-- the pattern that a term is, where these indices are those of the arguments behind it
abbrev pub pattern_before : List ℕ → List SimpleType → Tree → Option Pattern
pattern_before order types (variable n a) = Some (record { number = n; order = order; types = types })
pattern_before order types (app f x) =
    option_and_then (λ (i : ℕ). pattern_before (order ++ i ∷ []) (types ++ type_of x ∷ []) f) (new_index order x)
pattern_before order types (bound i a) = None
pattern_before order types (symbol s a) = None
pattern_before order types (lam a t) = None
pattern_before order types (logic c x y) = None
pattern_before order types absent = None

-- a variable that is applied to the eta-long forms of different indices, from no argument on
abbrev pub pattern_of : Tree → Option Pattern
pattern_of t = pattern_before [] [] t

-- in the term under `depth` lambdas the variable does not occur, and each index that is loose with them is one of these
abbrev pub is_covered : ℕ → List ℕ → ℕ → Tree → Bool
is_covered number order depth (variable n a) = not (nat_eq n number)
is_covered number order depth (bound i a) = nat_lt i depth || list_any (nat_eq (i - depth)) order
is_covered number order depth (symbol s a) = true
is_covered number order depth (app f x) = is_covered number order depth f && is_covered number order depth x
is_covered number order depth (lam a t) = is_covered number order (depth + 1) t
is_covered number order depth (logic c x y) = is_covered number order depth x && is_covered number order depth y
is_covered number order depth absent = true

-- the term under `depth` lambdas, whose loose indices become their places in the order
abbrev pub rebound : List ℕ → ℕ → Tree → Tree
rebound order depth (variable n a) = variable n a
rebound order depth (bound i a) = if nat_lt i depth then bound i a else bound (depth + place_in order (i - depth)) a
rebound order depth (symbol s a) = symbol s a
rebound order depth (app f x) = app (rebound order depth f) (rebound order depth x)
rebound order depth (lam a t) = lam a (rebound order (depth + 1) t)
rebound order depth (logic c x y) = logic c (rebound order depth x) (rebound order depth y)
rebound order depth absent = absent

-- the function of indices of these types, the innermost first
abbrev pub abstracted : List SimpleType → Tree → Tree
abstracted [] t = t
abstracted (a ∷ types) t = abstracted types (lam a t)
