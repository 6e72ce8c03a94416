-- What the calls that match terms say to one another. No public contract speaks of it.
use Rattle.std.specs.Prelude.{ℕ, ◌≡◌, ◌<◌, ◌⊎◌, Bool, true, false, List, [], ◌∷◌, ◌++◌, length, map, slice_get, Option, Some}
use Rattle.std.specs.List.{list_any}
use Rattle.leo_q0.specs.Terms.{SimpleType}
use Rattle.leo_terms.specs.Tree.{Tree, variable, app, lam, logic, substituted, Connective}
use Rattle.leo_terms.specs.Contents.{Contents, IsArgumentBelow, HasTypeBelow, argument, connective, tree_at, type_at}
use Rattle.leo_terms.specs.declared.node.Op.{Op}
use Rattle.leo_clause.specs.declared.clause.Lit.{Lit}
use Rattle.leo_clause.specs.Trees.{Literal}
use Rattle.leo_clause.specs.Sameness.{same_literal}
use Rattle.leo_clause.specs.Renaming.{substituted_literal}
use Rattle.leo_clause.specs.Typed.{IsOver}
use Rattle.leo_keep.specs.declared.matching.Binding.{Binding}
use Rattle.leo_keep.specs.Subsumption.{MayReplace, AreReplacements, AreAmong}

-- each variable of the term is one of these, with its type
abbrev pub IsOverSome : List SimpleType → Tree → Type 0
IsOverSome variables t = (depth : ℕ) × IsOver variables depth t

-- a bound variable is one of these, and its term may replace it
pub record IsBinding (c : Contents) (variables : List SimpleType) (b : Binding) : Type 0 where
  pub within : b.term < length c.terms
  pub ty : SimpleType
  pub declared : slice_get variables b.variable ≡ Some ty
  pub may_replace : MayReplace ty (tree_at c b.term)

-- the variable is not bound
abbrev pub IsUnbound : ℕ → List Binding → Type 0
IsUnbound n [] = Unit {0}
IsUnbound n (b ∷ bs) = (b.variable ≡ n → ⊥) × IsUnbound n bs

-- the variable is bound to the term with this number
pub record IsBoundTo (n t : ℕ) (bs : List Binding) : Type 0 where
  pub place : ℕ
  pub binding : Binding
  pub stands : slice_get bs place ≡ Some binding
  pub variable_is : binding.variable ≡ n
  pub term_is : binding.term ≡ t

-- no variable is bound twice
abbrev pub AreBindings : Contents → List SimpleType → List Binding → Type 0
AreBindings c variables [] = Unit {0}
AreBindings c variables (b ∷ bs) = IsBinding c variables b × IsUnbound b.variable bs × AreBindings c variables bs

-- the terms have for each bound variable what it is bound to
abbrev pub Obey : Contents → List Binding → List Tree → Type 0
Obey c [] terms = Unit {0}
Obey c (b ∷ bs) terms = (slice_get terms b.variable ≡ Some (tree_at c b.term)) × Obey c bs terms

-- the new bindings say what the old ones say and besides what is asked of the terms, where that can be found
pub record Narrows (c : Contents) (variables : List SimpleType) (old new : List Binding) (found : Bool) (Asked : List Tree → Type 0) : Type 0 where
  pub more : List Binding
  pub extends : new ≡ old ++ more
  pub sound : AreBindings c variables new
  pub gained : found ≡ true → (terms : List Tree) → AreReplacements variables terms → Obey c new terms → Asked terms
  pub kept : found ≡ true → (terms : List Tree) → AreReplacements variables terms → Obey c old terms → Asked terms → Obey c new terms
  pub refused : found ≡ false → (terms : List Tree) → AreReplacements variables terms → Obey c old terms → Asked terms → ⊥

-- with the terms put in, the pattern p is s
abbrev pub Fits : Tree → Tree → List Tree → Type 0
Fits p s terms = substituted terms 0 p ≡ s

-- the terms have s for the variable n
abbrev pub IsGivenAt : ℕ → Tree → List Tree → Type 0
IsGivenAt n s terms = slice_get terms n ≡ Some s

-- the same of two patterns
abbrev pub BothFit : Tree → Tree → Tree → Tree → List Tree → Type 0
BothFit p s q t terms = Fits p s terms × Fits q t terms

-- some terms for the variables give each bound one what it is bound to, and send the literals among others
pub record SendsAmong (c : Contents) (variables : List SimpleType) (bindings : List Binding) (literals others : List Literal) : Type 0 where
  pub terms : List Tree
  pub replacements : AreReplacements variables terms
  pub obeyed : Obey c bindings terms
  pub among : AreAmong (map (substituted_literal terms) literals) others

-- the same, with a first literal of which something is asked besides
pub record SendsFirst (c : Contents) (variables : List SimpleType) (bindings : List Binding) (Asked : List Tree → Type 0) (rest others : List Literal) : Type 0 where
  pub terms : List Tree
  pub replacements : AreReplacements variables terms
  pub obeyed : Obey c bindings terms
  pub first : Asked terms
  pub among : AreAmong (map (substituted_literal terms) rest) others

-- with the terms put in, the literal is one of some, as it is or turned
abbrev pub IsAmong : Literal → List Literal → List Tree → Type 0
IsAmong l ks terms = list_any (same_literal (substituted_literal terms l)) ks ≡ true

abbrev pub IsSame : Literal → Literal → List Tree → Type 0
IsSame l k terms = same_literal (substituted_literal terms l) k ≡ true

-- the term is a variable
pub record IsVariable (t : Tree) : Type 0 where
  pub number : ℕ
  pub ty : SimpleType
  pub is : t ≡ variable number ty

-- what stands at the top of a term, where it is an application, and a logical constant
pub record IsApplication (c : Contents) (s : Tree) (f x : ℕ) : Type 0 where
  pub function_within : f < length c.terms
  pub argument_within : x < length c.terms
  pub reads : s ≡ app (tree_at c f) (tree_at c x)

pub record IsConstant (c : Contents) (s : Tree) (o : Op) (x y : Option ℕ) : Type 0 where
  pub first_within : IsArgumentBelow (length c.terms) x
  pub second_within : IsArgumentBelow (length c.terms) y
  pub type_within : HasTypeBelow (length c.types) o
  pub reads : s ≡ logic (connective c o) (argument (tree_at c) x) (argument (tree_at c) y)

abbrev pub IsNoApplication : Tree → Type 0
IsNoApplication s = (f x : Tree) → s ≡ app f x → ⊥

abbrev pub IsNoConstant : Tree → Type 0
IsNoConstant s = (o : Connective) (x y : Tree) → s ≡ logic o x y → ⊥

abbrev pub IsNoLambda : Tree → Type 0
IsNoLambda s = (a : SimpleType) (t : Tree) → s ≡ lam a t → ⊥

pub record IsLambda (c : Contents) (s : Tree) (a t : ℕ) : Type 0 where
  pub type_within : a < length c.types
  pub body_within : t < length c.terms
  pub reads : s ≡ lam (type_at c a) (tree_at c t)

-- the sides of two literals are the same, as they are or turned
abbrev pub HaveSameSides : Lit → Lit → Type 0
HaveSameSides l k = ((l.left ≡ k.left) × (l.right ≡ k.right)) ⊎ ((l.left ≡ k.right) × (l.right ≡ k.left))
