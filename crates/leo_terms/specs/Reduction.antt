-- Reduction of terms by beta steps and eta expansions, and what it ends in.
use Rattle.std.specs.Prelude.{◌≡◌, Bool, true, false}
use Rattle.leo_q0.specs.Terms.{SimpleType, base, arrow}
use Rattle.leo_terms.specs.Tree.{codomain, Tree, variable, bound, symbol, app, lam, logic, absent, Connective, connective_type, type_of, IsBoundAt, lifted, opened}

-- the first term becomes the second by beta steps and eta expansions
pub data Reduces : Tree → Tree → Type 0 where
  nothing : (t : Tree) → Reduces t t
  andthen : (r s t : Tree) → Reduces r s → Reduces s t → Reduces r t
  in_app : (f g x y : Tree) → Reduces f g → Reduces x y → Reduces (app f x) (app g y)
  in_lam : (a : SimpleType) (s t : Tree) → Reduces s t → Reduces (lam a s) (lam a t)
  in_logic : (c : Connective) (s t x y : Tree) → Reduces s t → Reduces x y → Reduces (logic c s x) (logic c t y)
  beta : (a : SimpleType) (t x : Tree) → IsBoundAt 0 a t → type_of x ≡ a → Reduces (app (lam a t) x) (opened 0 x t)
  eta : (a b : SimpleType) (t : Tree) → type_of t ≡ arrow a b → Reduces t (lam a (app (lifted 0 1 t) (bound 0 a)))

-- no type of functions
abbrev pub IsBase : SimpleType → Type 0
IsBase (base n) = Unit {0}
IsBase (arrow a b) = ⊥

abbrev pub IsBaseIf : Bool → SimpleType → Type 0
IsBaseIf true a = IsBase a
IsBaseIf false a = Unit {0}

abbrev pub IsLamIf : Bool → Type 0 → Type 0
IsLamIf true p = p
IsLamIf false p = ⊥

-- beta-normal, and with `long` eta-long as a whole; else as the head of an application may be, whose arguments are eta-long
abbrev pub IsForm : Bool → Tree → Type 0
IsForm long (variable n a) = IsBaseIf long a
IsForm long (bound i a) = IsBaseIf long a
IsForm long (symbol s a) = IsBaseIf long a
IsForm long (app f x) = IsForm false f × IsForm true x × IsBaseIf long (codomain (type_of f))
IsForm long (lam a t) = IsLamIf long (IsForm true t)
IsForm long (logic c x y) = IsForm true x × IsForm true y × IsBaseIf long (connective_type c)
IsForm long absent = Unit {0}

-- beta-normal and eta-long
abbrev pub IsNormal : Tree → Type 0
IsNormal t = IsForm true t

-- a head with arguments that are beta-normal and eta-long
abbrev pub IsNeutral : Tree → Type 0
IsNeutral t = IsForm false t
