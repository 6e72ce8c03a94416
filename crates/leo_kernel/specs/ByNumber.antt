-- Clauses that are compared by the numbers of a bank. No public contract speaks of it.
use Rattle.std.specs.Prelude.{ℕ, zero, suc, ◌≡◌, List, [], ◌∷◌, ◌++◌, take, drop, Option, Some, None, Bool, true, false, not, nat_eq}
use Rattle.leo_terms.specs.Tree.{Tree, variable, bound, symbol, app, lam, logic, absent}
use Rattle.leo_clause.specs.declared.record.Side.{Side}
use Rattle.leo_clause.specs.declared.record.Side.TheVariants.{Left, Right}
use Rattle.leo_clause.specs.declared.record.Half.{Half}
use Rattle.leo_clause.specs.declared.record.Half.TheVariants.{One, Two}
use Rattle.leo_clause.specs.declared.clause.Lit.{Lit}
use Rattle.leo_clause.specs.declared.clause.Clause.{Clause}

-- the clause is its parent with new literals in the place of one, and fresh variables behind its own
pub record IsConclusion (parent : Clause) (place : ℕ) (fresh : List ℕ) (new : List Lit) (step : Clause) : Type 0 where
  pub variables : step.vars ≡ parent.vars ++ fresh
  pub literals : step.lits ≡ take place parent.lits ++ (new ++ drop (suc place) parent.lits)

-- the item of a list of one
abbrev pub only : {X : Type 0} → List X → Option X
only [] = None
only (x ∷ []) = Some x
only (x ∷ y ∷ xs) = None

-- the values of the sides in a case of an equation of truth values, or of an inequation
abbrev pub left_value : Half → Bool → Bool
left_value One equal = not equal
left_value Two equal = equal

abbrev pub right_value : Half → Bool
right_value One = true
right_value Two = false

-- the children of an application, and of a logical constant
abbrev pub app_child_of : ℕ → ℕ → ℕ → Option ℕ
app_child_of f a zero = Some f
app_child_of f a (suc zero) = Some a
app_child_of f a (suc (suc n)) = None

abbrev pub logic_child_of : Option ℕ → Option ℕ → ℕ → Option ℕ
logic_child_of x y zero = x
logic_child_of x y (suc zero) = y
logic_child_of x y (suc (suc n)) = None

-- whether a term is this symbol
abbrev pub is_symbol_tree : ℕ → Tree → Bool
is_symbol_tree s (symbol n a) = nat_eq n s
is_symbol_tree s (variable n a) = false
is_symbol_tree s (bound i a) = false
is_symbol_tree s (app f x) = false
is_symbol_tree s (lam a t) = false
is_symbol_tree s (logic c x y) = false
is_symbol_tree s absent = false

-- the number of a literal's side
abbrev pub side_number : Side → Lit → ℕ
side_number Left l = l.left
side_number Right l = l.right

abbrev pub other_side_number : Side → Lit → ℕ
other_side_number Left l = l.right
other_side_number Right l = l.left
