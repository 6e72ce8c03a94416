-- What is inferred from one clause alone, kind by kind, each over the literals from left to right. The clause stands in line p,
-- and the lines of a member follow on it.
use Rattle.std.specs.Prelude.{ℕ, suc, nat_eq, nat_le, nat_lt, ◌-◌, Bool, true, false, not, ◌&&◌, if◌then◌else◌, List, [], ◌∷◌, ◌++◌, length, map, None}
use Rattle.std.specs.List.{flat_map}
use Rattle.leo_q0.specs.Terms.{SimpleType, base, arrow, same_type}
use Rattle.leo_terms.specs.Facts.{loose_range}
use Rattle.leo_terms.specs.Tree.{Tree, variable, bound, symbol, app, lam, logic, absent, Connective, truth, falsity, negation, disjunction, conjunction, implication, equality, universal, existential, choice, truth_type}
use Rattle.leo_clause.specs.declared.record.Half.{Half}
use Rattle.leo_clause.specs.declared.record.Half.TheVariants.{One, Two}
use Rattle.leo_clause.specs.Renaming.{substituted_literal}
use Rattle.leo_clause.specs.Sameness.{same_tree}
use Rattle.leo_clause.specs.Trees.{Literal, ClauseTree}
use Rattle.leo_kernel.specs.Conclusions.{with_new, bool_case, func_ext_positive, choice_clause, factored}
use Rattle.leo_kernel.specs.Shapes.{choice_tree, valued, side_of, literal_type}
use Rattle.leo_kernel.specs.Steps.{Line, convert, inst, arrange, bool_ext, func_ext, choose, factor}
use Rattle.leo_para.specs.Members.{each_literal, is_formula, used_sides}
use Rattle.leo_para.specs.Places.{Place, places}
use Rattle.leo_para.specs.Spines.{head, heads_meet}
use Rattle.leo_clausify.specs.Splitting.{turned}
use Rattle.leo_ext.specs.Binding.{Binding, argument_types, under_lambdas, bindings, given_for}

-- the lines that lead to a conclusion, which is the clause of the last one, and the numbers of its literals that are to be solved
pub record Member : Type 0 where
  pub lines : List Line
  pub pairs : List ℕ

-- one step, after which nothing is to be solved
abbrev pub alone : Line → Member
alone l = record { lines = l ∷ []; pairs = [] }

-- resolve: a negative literal is to be solved

abbrev pub resolve_at : ℕ → ClauseTree → ℕ → Literal → List Member
resolve_at p c i l = if l.positive then [] else (record { lines = record { clause = c; rule = convert p } ∷ []; pairs = i ∷ [] } ∷ [])

abbrev pub resolve_members : ℕ → ClauseTree → List Member
resolve_members p c = each_literal (resolve_at p c) 0 c.literals

-- factor: two positive literals become one, the second as it is, or turned if it is no formula literal

-- formula literals with one value, or equations of one type that are none
abbrev pub are_alike : Literal → Literal → Bool
are_alike l k = if is_formula l then (is_formula k && same_tree l.right k.right) else (not (is_formula k) && same_type (literal_type l) (literal_type k))

-- the two literals that stand last when one of the clause's is gone and two have come
abbrev pub last_two : ClauseTree → List ℕ
last_two c = (length c.literals - 1) ∷ length c.literals ∷ []

abbrev pub factor_line : ℕ → ClauseTree → ℕ → Literal → ℕ → Literal → Line
factor_line p c i l j k = record { clause = factored c j l k; rule = factor p i j }

abbrev pub with_turned : ClauseTree → ℕ → Literal → ClauseTree
with_turned c j k = with_new c j [] (turned k ∷ [])

abbrev pub factor_as_it_is : ℕ → ClauseTree → ℕ → Literal → ℕ → Literal → List Member
factor_as_it_is p c i l j k =
    if heads_meet [] l.left k.left then (record { lines = factor_line p c i l j k ∷ []; pairs = last_two c } ∷ []) else []

abbrev pub factor_turned : ℕ → ClauseTree → ℕ → Literal → ℕ → Literal → List Member
factor_turned p c i l j k =
    if (not (is_formula k) && heads_meet [] l.left k.right) then (record { lines = record { clause = with_turned c j k; rule = arrange p } ∷ factor_line (suc p) (with_turned c j k) i l j (turned k) ∷ []; pairs = last_two c } ∷ []) else []

-- literal j comes after literal i, both are positive, and they are alike
abbrev pub may_be_one : ℕ → Literal → ℕ → Literal → Bool
may_be_one i l j k = (nat_lt i j && (l.positive && k.positive)) && are_alike l k

abbrev pub factor_with : ℕ → ClauseTree → ℕ → Literal → ℕ → Literal → List Member
factor_with p c i l j k = if may_be_one i l j k then (factor_as_it_is p c i l j k ++ factor_turned p c i l j k) else []

abbrev pub factor_at : ℕ → ClauseTree → ℕ → Literal → List Member
factor_at p c i l = each_literal (factor_with p c i l) 0 c.literals

abbrev pub factor_members : ℕ → ClauseTree → List Member
factor_members p c = each_literal (factor_at p c) 0 c.literals

-- bool_ext: an equation of truth values, or its negation, as its two cases

abbrev pub bool_ext_line : ℕ → ClauseTree → ℕ → Literal → Half → Line
bool_ext_line p c i l half = record { clause = with_new c i [] (bool_case half l.positive l.left l.right); rule = bool_ext p i half }

abbrev pub bool_ext_at : ℕ → ClauseTree → ℕ → Literal → List Member
bool_ext_at p c i l =
    if (same_type (literal_type l) truth_type && not (is_formula l)) then (alone (bool_ext_line p c i l One) ∷ alone (bool_ext_line p c i l Two) ∷ []) else []

abbrev pub bool_ext_members : ℕ → ClauseTree → List Member
bool_ext_members p c = each_literal (bool_ext_at p c) 0 c.literals

-- func_ext: `f = g` as an equation of values at a fresh argument (that `f ≠ g` needs a symbol: see `FuncExts`)

abbrev pub is_arrow : SimpleType → Bool
is_arrow (base n) = false
is_arrow (arrow a b) = true

abbrev pub func_ext_line : ℕ → ClauseTree → ℕ → Literal → Line
func_ext_line p c i l = record { clause = func_ext_positive c i l; rule = func_ext p i None }

-- primitive: a variable at the head of a formula literal, with at most 8 arguments, is bound in each way

abbrev pub primitive_line : ℕ → ClauseTree → ℕ → SimpleType → Binding → Line
primitive_line p c n a b =
    let sigma = given_for n (under_lambdas (argument_types a) b.body) 0 c.variables in
    record { clause = record { variables = c.variables ++ b.fresh; literals = map (substituted_literal sigma) c.literals }; rule = inst p sigma }

abbrev pub primitive_member : ℕ → ClauseTree → ℕ → SimpleType → Binding → Member
primitive_member p c n a b = alone (primitive_line p c n a b)

abbrev pub primitive_by : ℕ → ClauseTree → ℕ → SimpleType → List Member
primitive_by p c n a = if nat_le (length (argument_types a)) 8 then map (primitive_member p c n a) (bindings (length c.variables) (argument_types a)) else []

abbrev pub primitive_for : ℕ → ClauseTree → Tree → List Member
primitive_for p c (variable n a) = primitive_by p c n a
primitive_for p c (bound i a) = []
primitive_for p c (symbol s a) = []
primitive_for p c (app f x) = []
primitive_for p c (lam a t) = []
primitive_for p c (logic o x y) = []
primitive_for p c absent = []

abbrev pub primitive_at : ℕ → ClauseTree → ℕ → Literal → List Member
primitive_at p c i l = if is_formula l then primitive_for p c (head l.left) else []

abbrev pub primitive_members : ℕ → ClauseTree → List Member
primitive_members p c = each_literal (primitive_at p c) 0 c.literals

-- choice: for each place with a chosen term `ε P` as its head, `P X = F` or `P (ε P) = T`

abbrev pub choice_literals : SimpleType → Tree → Tree → List Literal
choice_literals a property x = valued (app property x) false ∷ valued (app property (choice_tree a property)) true ∷ []

-- the axiom of choice, which stands in line p, for a property and a fresh variable
abbrev pub choice_instance : ℕ → List SimpleType → SimpleType → Tree → Line
choice_instance p variables a property =
    let x = variable (length variables) a in
    record { clause = record { variables = variables ++ a ∷ []; literals = choice_literals a property x }; rule = inst p (property ∷ x ∷ []) }

abbrev pub choice_member : ℕ → ClauseTree → SimpleType → Tree → Member
choice_member p c a property = record { lines = record { clause = choice_clause a; rule = choose } ∷ choice_instance (suc p) c.variables a property ∷ []; pairs = [] }

abbrev pub choice_with : ℕ → ClauseTree → Connective → Tree → List Member
choice_with p c (choice a) property = if nat_eq (loose_range property) 0 then (choice_member p c a property ∷ []) else []
choice_with p c truth property = []
choice_with p c falsity property = []
choice_with p c negation property = []
choice_with p c disjunction property = []
choice_with p c conjunction property = []
choice_with p c implication property = []
choice_with p c (equality a) property = []
choice_with p c (universal a) property = []
choice_with p c (existential a) property = []

abbrev pub choice_for : ℕ → ClauseTree → Tree → List Member
choice_for p c (logic o x y) = choice_with p c o x
choice_for p c (variable n a) = []
choice_for p c (bound i a) = []
choice_for p c (symbol s a) = []
choice_for p c (app f x) = []
choice_for p c (lam a t) = []
choice_for p c absent = []

abbrev pub choice_in : ℕ → ClauseTree → Place → List Member
choice_in p c q = choice_for p c (head q.term)

abbrev pub choice_at : ℕ → ClauseTree → ℕ → Literal → List Member
choice_at p c i l = flat_map (λ s. flat_map (choice_in p c) (places (side_of s l))) (used_sides l)

abbrev pub choice_members : ℕ → ClauseTree → List Member
choice_members p c = each_literal (choice_at p c) 0 c.literals
