-- What is done with one pair: the first case that applies.
use Rattle.std.specs.Prelude.{ℕ, suc, nat_eq, nat_lt, nat_le, Bool, true, false, not, ◌&&◌, ◌||◌, if◌then◌else◌, List, [], ◌∷◌, ◌++◌, length, map, Option, Some, None, unwrap_or}
use Rattle.std.specs.Option.{option_map, option_and_then}
use Rattle.leo_q0.specs.Terms.{SimpleType, base, arrow, same_type}
use Rattle.leo_terms.specs.Tree.{truth_type, Tree, variable, bound, symbol, app, lam, logic, absent, Connective, truth, falsity, negation, disjunction, conjunction, implication, equality, universal, existential, choice, connective_type, type_of}
use Rattle.leo_clause.specs.Sameness.{same_tree}
use Rattle.leo_unify.specs.Spines.{head, is_variable, is_flex, is_rigid}
use Rattle.leo_unify.specs.Pairs.{Pair, paired_arguments}
use Rattle.leo_unify.specs.Patterns.{Pattern, pattern_of, is_covered, rebound, abstracted}

-- a variable becomes a term, over the variables so far and fresh ones of these types behind them
pub record Binding : Type 0 where
  pub number : ℕ
  pub fresh : List SimpleType
  pub term : Tree

-- what is done with a pair
pub data Act : Type 0 where
  -- no case applies
  stay : Act
  -- these pairs take its place
  replace : List Pair → Act
  -- a variable is bound
  bind : Binding → Act
  -- there is no solution
  refuse : Act
  -- a variable is bound in one of these ways, which are tried in this order
  branch : List Binding → Act

-- ---- binders, equal sides

abbrev pub body_of : Tree → Option Tree
body_of (lam a t) = Some t
body_of (variable n a) = None
body_of (bound i a) = None
body_of (symbol s a) = None
body_of (app f x) = None
body_of (logic c x y) = None
body_of absent = None

-- two lambdas: the binder of both is stripped; the next one of both is stripped by the next step
abbrev pub stripped : Tree → Tree → Option Act
stripped l r =
    option_and_then
    (λ (s : Tree). option_map (λ (t : Tree). replace ((record { left = s; right = t }) ∷ [])) (body_of r))
    (body_of l)

-- equal sides: the pair is removed
abbrev pub removed : Tree → Tree → Option Act
removed l r = if same_tree l r then Some (replace []) else None

-- ---- a variable with different indices as arguments

-- the variable becomes the other side as a function of the indices, if it does not occur there and no other index does
abbrev pub bound_by : Tree → Pattern → Option Act
bound_by u p =
    if is_covered p.number p.order 0 u
    then Some (bind (record { number = p.number; fresh = []; term = abstracted p.types (rebound p.order 0 u) }))
    else None

-- the side t is such a variable, and u is the other side
abbrev pub solved : Tree → Tree → Option Act
solved t u = option_and_then (bound_by u) (pattern_of t)

-- a variable alone that could not be bound: there is no solution
abbrev pub stuck : Tree → Tree → Option Act
stuck l r = if is_variable l || is_variable r then Some refuse else None

-- ---- two rigid sides

-- the same symbol, the same index or choice at one type as heads: the pairs of the arguments
abbrev pub taken_apart : Tree → Tree → Option Act
taken_apart l r = option_map replace (paired_arguments l r)

-- two other rigid sides of a type other than the type of truth values: there is no solution
abbrev pub clashing : Tree → Tree → Option Act
clashing l r = if is_rigid l && (is_rigid r && not (same_type (type_of l) truth_type)) then Some refuse else None

-- ---- a flex and a rigid side

-- the types of the arguments that a function of this type takes one after the other, and of what it gives in the end
abbrev pub domains : SimpleType → List SimpleType
domains (base n) = []
domains (arrow a b) = a ∷ domains b

abbrev pub result_type : SimpleType → SimpleType
result_type (base n) = base n
result_type (arrow a b) = result_type b

-- the type of functions of arguments of these types
abbrev pub function_type : List SimpleType → SimpleType → SimpleType
function_type [] b = b
function_type (a ∷ types) b = arrow a (function_type types b)

abbrev pub constant_domains : Connective → List SimpleType
constant_domains truth = []
constant_domains falsity = []
constant_domains negation = truth_type ∷ []
constant_domains disjunction = truth_type ∷ truth_type ∷ []
constant_domains conjunction = truth_type ∷ truth_type ∷ []
constant_domains implication = truth_type ∷ truth_type ∷ []
constant_domains (equality a) = a ∷ a ∷ []
constant_domains (universal a) = arrow a truth_type ∷ []
constant_domains (existential a) = arrow a truth_type ∷ []
constant_domains (choice a) = arrow a truth_type ∷ []

-- the types of the arguments that a head takes: of a logical constant its own, then those of what it gives
abbrev pub taken_by : Tree → List SimpleType
taken_by (variable n a) = domains a
taken_by (bound i a) = domains a
taken_by (symbol s a) = domains a
taken_by (logic c x y) = constant_domains c ++ domains (connective_type c)
taken_by (app f x) = []
taken_by (lam a t) = []
taken_by absent = []

abbrev pub applied_to : Tree → List Tree → Tree
applied_to t [] = t
applied_to t (x ∷ xs) = applied_to (app t x) xs

-- a logical constant with the first of these as its arguments, applied to the others
abbrev pub constant_with : Connective → List Tree → Tree
constant_with truth xs = applied_to (logic truth absent absent) xs
constant_with falsity xs = applied_to (logic falsity absent absent) xs
constant_with negation (x ∷ xs) = applied_to (logic negation x absent) xs
constant_with disjunction (x ∷ y ∷ xs) = applied_to (logic disjunction x y) xs
constant_with conjunction (x ∷ y ∷ xs) = applied_to (logic conjunction x y) xs
constant_with implication (x ∷ y ∷ xs) = applied_to (logic implication x y) xs
constant_with (equality a) (x ∷ y ∷ xs) = applied_to (logic (equality a) x y) xs
constant_with (universal a) (x ∷ xs) = applied_to (logic (universal a) x absent) xs
constant_with (existential a) (x ∷ xs) = applied_to (logic (existential a) x absent) xs
constant_with (choice a) (x ∷ xs) = applied_to (logic (choice a) x absent) xs
constant_with c _ = absent

-- the head with these as its arguments
abbrev pub headed : Tree → List Tree → Tree
headed (logic c x y) xs = constant_with c xs
headed (variable n a) xs = applied_to (variable n a) xs
headed (bound i a) xs = applied_to (bound i a) xs
headed (symbol s a) xs = applied_to (symbol s a) xs
headed (app f x) xs = absent
headed (lam a t) xs = absent
headed absent xs = absent

-- a function of arguments of these types, and the arguments in its body, from the first to the last
abbrev pub function_of : List SimpleType → Tree → Tree
function_of [] t = t
function_of (a ∷ types) t = lam a (function_of types t)

abbrev pub binders : List SimpleType → List Tree
binders [] = []
binders (a ∷ types) = bound (length types) a ∷ binders types

-- fresh variables for values of these types, numbered from `next` on, each applied to all arguments
abbrev pub fresh_values : List SimpleType → ℕ → List SimpleType → List Tree
fresh_values outer next [] = []
fresh_values outer next (b ∷ types) =
    applied_to (variable next (function_type outer b)) (binders outer) ∷ fresh_values outer (suc next) types

-- the variable, which takes arguments of the types `outer`, becomes a function whose body has this head
abbrev pub with_head : ℕ → List SimpleType → ℕ → Tree → Binding
with_head number outer next h = record {
  number = number;
  fresh = map (function_type outer) (taken_by h);
  term = function_of outer (headed h (fresh_values outer next (taken_by h)));
}

-- at most eight arguments
abbrev pub takes_few : Tree → Bool
takes_few h = nat_le (length (taken_by h)) 8

-- a symbol or a logical constant
abbrev pub is_constant : Tree → Bool
is_constant (symbol s a) = true
is_constant (logic c x y) = true
is_constant (variable n a) = false
is_constant (bound i a) = false
is_constant (app f x) = false
is_constant (lam a t) = false
is_constant absent = false

-- imitation: the head of the other side, if it is a symbol or a logical constant. The head of a rigid side in normal form is else an index
abbrev pub imitations : ℕ → List SimpleType → ℕ → Tree → List Binding
imitations number outer next h = if is_constant h && takes_few h then with_head number outer next h ∷ [] else []

-- projections: those of the arguments that end in the result type of the variable
abbrev pub projections : ℕ → List SimpleType → ℕ → SimpleType → List Tree → List Binding
projections number outer next result [] = []
projections number outer next result (x ∷ xs) =
    (if same_type (result_type (type_of x)) result && takes_few x then with_head number outer next x ∷ [] else []) ++
    projections number outer next result xs

-- the ways in which the variable at the head of the flex side is bound, where h is the head of the rigid side and `next` the number of
-- the next fresh variable
abbrev pub bindings : ℕ → SimpleType → ℕ → Tree → List Binding
bindings number a next h =
    imitations number (domains a) next h ++ projections number (domains a) next (result_type a) (binders (domains a))

-- no solution where no branches are left, or where the variable takes over eight arguments
abbrev pub tried : ℕ → ℕ → Tree → Tree → Act
tried next depth (variable n a) h =
    if nat_eq depth 0 || nat_lt 8 (length (domains a)) then refuse else branch (bindings n a next h)
tried next depth (bound i a) h = refuse
tried next depth (symbol s a) h = refuse
tried next depth (app f x) h = refuse
tried next depth (lam a t) h = refuse
tried next depth (logic c x y) h = refuse
tried next depth absent h = refuse

abbrev pub branching : ℕ → ℕ → Tree → Tree → Option Act
branching next depth l r =
    if is_flex l && is_rigid r then Some (tried next depth (head l) (head r))
    else (if is_rigid l && is_flex r then Some (tried next depth (head r) (head l)) else None)

-- ---- the first case that applies, with the number of the next fresh variable and the depth that is left

-- where no case from the two rigid sides on applies, nothing is done
abbrev pub act_on_heads : ℕ → ℕ → Tree → Tree → Act
act_on_heads next depth l r = unwrap_or (taken_apart l r) (unwrap_or (clashing l r) (unwrap_or (branching next depth l r) stay))

-- the left side is tried as a variable with different indices before the right one
abbrev pub act_on_sides : ℕ → ℕ → Tree → Tree → Act
act_on_sides next depth l r = unwrap_or (solved l r) (unwrap_or (solved r l) (unwrap_or (stuck l r) (act_on_heads next depth l r)))

abbrev pub act : ℕ → ℕ → Tree → Tree → Act
act next depth l r = unwrap_or (stripped l r) (unwrap_or (removed l r) (act_on_sides next depth l r))
