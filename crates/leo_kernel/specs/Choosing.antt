-- Rules whose conclusion speaks of a chosen w: a symbol for a closed term, applied to variables of the clause.
use Rattle.std.specs.Prelude.{◌≡◌, Bool, true, false, List, [], ◌∷◌, slice_get, Some}
use Rattle.leo_q0.specs.Terms.{SimpleType}
use Rattle.leo_terms.specs.Tree.{Tree, variable, bound, symbol, app, lam, logic, absent, codomain, type_of, lifted}
use Rattle.leo_terms.specs.Typing.{IsWellTyped}
use Rattle.leo_terms.specs.NormalForm.{normal_form}
use Rattle.leo_clause.specs.declared.record.LogicKind.{LogicKind}
use Rattle.leo_clause.specs.declared.record.LogicKind.TheVariants.{AllF, SomeT}
use Rattle.leo_clause.specs.Trees.{Literal}
use Rattle.leo_kernel.specs.Shapes.{not_tree, eq_tree, all_tree, some_tree, choice_tree, unequal, valued, literal_type, domain}

-- what is said of the chosen w
pub data Claim : Type 0 where
  -- `P w` has the value v, for a property of things of type c
  value : (c : SimpleType) (p : Tree) (v : Bool) → Claim
  -- `f w ≠ g w`, for functions of things of type c
  difference : (c : SimpleType) (f g : Tree) → Claim

-- the literal about w
abbrev pub claimed : Claim → Tree → Literal
claimed (value c p v) w = valued (app p w) v
claimed (difference c f g) w = unequal (app f w) (app g w)

abbrev pub chosen_type : Claim → SimpleType
chosen_type (value c p v) = c
chosen_type (difference c f g) = c

-- the term that w must be: `ε P` for a true value, `ε (λx. ~ (P x))` for a false one, `ε (λx. ~ (f x = g x))`
abbrev pub chosen : Claim → Tree
chosen (value c p true) = choice_tree c p
chosen (value c p false) = choice_tree c (lam c (not_tree (app (lifted 0 1 p) (bound 0 c))))
chosen (difference c f g) = choice_tree c (lam c (not_tree (eq_tree (codomain (type_of f)) (app (lifted 0 1 f) (bound 0 c)) (app (lifted 0 1 g) (bound 0 c)))))

-- the claim that a literal about a truth value becomes
pub data Claims : LogicKind → Literal → Claim → Type 0 where
  all_f : (c : SimpleType) (p : Tree) → Claims AllF (valued (all_tree c p) false) (value c p false)
  some_t : (c : SimpleType) (p : Tree) → Claims SomeT (valued (some_tree c p) true) (value c p true)

-- the claim that `f ≠ g` becomes
abbrev pub difference_in : Literal → Claim
difference_in l = difference (domain (literal_type l)) l.left l.right

-- a literal has w where the claim has it
abbrev pub SpeaksOf : Claim → Tree → Literal → Type 0
SpeaksOf (value c p v) w l = l.left ≡ app p w
SpeaksOf (difference c f g) w l = (l.left ≡ app f w) × (l.right ≡ app g w)

-- a term with arguments
abbrev pub applied_to : Tree → List Tree → Tree
applied_to t [] = t
applied_to t (x ∷ xs) = applied_to (app t x) xs

-- a variable of a clause
abbrev pub IsVariableOf : List SimpleType → Tree → Type 0
IsVariableOf variables (variable n a) = slice_get variables n ≡ Some a
IsVariableOf variables (bound i a) = ⊥
IsVariableOf variables (symbol n a) = ⊥
IsVariableOf variables (app f x) = ⊥
IsVariableOf variables (lam a t) = ⊥
IsVariableOf variables (logic c x y) = ⊥
IsVariableOf variables absent = ⊥

abbrev pub AreVariablesOf : List SimpleType → List Tree → Type 0
AreVariablesOf variables [] = Unit {0}
AreVariablesOf variables (x ∷ xs) = IsVariableOf variables x × AreVariablesOf variables xs

-- the closed term t with these variables as arguments has the chosen type, and the normal form of the chosen term
pub record Fits (variables : List SimpleType) (claim : Claim) (t : Tree) (xs : List Tree) : Type 0 where
  pub variables_of : AreVariablesOf variables xs
  pub typed : IsWellTyped (applied_to t xs)
  pub type_is : type_of (applied_to t xs) ≡ chosen_type claim
  pub same_form : normal_form (applied_to t xs) ≡ normal_form (chosen claim)

-- some variables fit
pub record MayFit (variables : List SimpleType) (claim : Claim) (t : Tree) : Type 0 where
  pub arguments : List Tree
  pub fits : Fits variables claim t arguments
