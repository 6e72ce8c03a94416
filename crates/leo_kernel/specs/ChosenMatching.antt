-- What the calls that look for the next variable say to one another. No public contract speaks of it.
use Rattle.std.specs.Prelude.{ℕ, ◌≡◌, ◌-◌, ◌+◌, ◌<◌, ◌≤◌, suc, length, map, List, slice_get, Option, Some, None, ◌⊎◌}
use Rattle.leo_q0.specs.Terms.{SimpleType, base, arrow}
use Rattle.leo_terms.specs.Tree.{Tree, app, variable, type_of}
use Rattle.leo_terms.specs.Facts.{variable_range}
use Rattle.leo_terms.specs.Contents.{Contents, tree_at, type_at, type_number}
use Rattle.leo_kernel.specs.declared.chosen_claims.Wanted.{Wanted}
use Rattle.leo_kernel.specs.declared.chosen_matching.Step.{Step}
use Rattle.leo_kernel.specs.declared.chosen_matching.Step.TheVariants as step
use Rattle.leo_kernel.specs.Choosing.{applied_to}
use Rattle.leo_kernel.specs.ChosenTerms.{renamed, descending, MayHaveForm}

-- where t is s with other variables, so is n of m
pub record LeadsTo (s t m n : Tree) : Type 0 where
  pub leads : (rho : ℕ → ℕ) → t ≡ renamed rho s → n ≡ renamed rho m

-- a step down to the first place of the variable with the greatest number, in a term and in what it is renamed to
pub record IsStepInto (c : Contents) (s t m n : ℕ) : Type 0 where
  pub falls : m < s
  pub within : n < length c.terms
  pub range_is : variable_range (tree_at c m) ≡ variable_range (tree_at c s)
  pub parts : LeadsTo (tree_at c s) (tree_at c t) (tree_at c m) (tree_at c n)

pub record IsFound (s t : Tree) (n : ℕ) : Type 0 where
  pub is : (rho : ℕ → ℕ) → t ≡ renamed rho s → n ≡ rho (variable_range s - 1)

pub record IsApart (s t : Tree) : Type 0 where
  pub apart : (rho : ℕ → ℕ) → t ≡ renamed rho s → ⊥

abbrev pub IsStep : Contents → ℕ → ℕ → Step → Type 0
IsStep c s t (step.Found n) = IsFound (tree_at c s) (tree_at c t) n
IsStep c s t (step.Into m n) = IsStepInto c s t m n
IsStep c s t step.Apart = IsApart (tree_at c s) (tree_at c t)

-- a variable of the type, which stands in form where the variable `top` does in the term, if it stands there
pub record IsCandidateOf (vars : List ℕ) (i top : ℕ) (term form : Tree) (n : ℕ) : Type 0 where
  pub declared : slice_get vars n ≡ Some i
  pub stands : top < variable_range term → (rho : ℕ → ℕ) → form ≡ renamed rho term → n ≡ rho top

-- there is no such variable
pub record HasNoCandidate (vars : List ℕ) (i top : ℕ) (term form : Tree) : Type 0 where
  pub unseen : variable_range term ≤ top → (m : ℕ) → slice_get vars m ≡ Some i → ⊥
  pub seen : top < variable_range term → (rho : ℕ → ℕ) → form ≡ renamed rho term → slice_get vars (rho top) ≡ Some i → ⊥

abbrev pub IsCandidate : List ℕ → ℕ → ℕ → Tree → Tree → Option ℕ → Type 0
IsCandidate vars i top term form None = HasNoCandidate vars i top term form
IsCandidate vars i top term form (Some n) = IsCandidateOf vars i top term form n

-- a type of functions, of any number of arguments, to this one
abbrev pub LeadsToType : SimpleType → SimpleType → Type 0
LeadsToType a (base n) = base n ≡ a
LeadsToType a (arrow b d) = (arrow b d ≡ a) ⊎ LeadsToType a d

-- u is a term of the bank, t with fresh variables, of type a
pub record IsFreshOf (c : Contents) (top : ℕ) (a : SimpleType) (t : Tree) (u : ℕ) : Type 0 where
  pub within : u < length c.terms
  pub types : List SimpleType
  pub reads : tree_at c u ≡ applied_to t (descending top types)
  pub type_is : type_of (tree_at c u) ≡ a
  pub room : variable_range t + length types ≤ suc top

-- u is t with fresh variables from `top` down to the one after `number`
pub record IsFreshSoFar (c : Contents) (top : ℕ) (t : Tree) (u number : ℕ) : Type 0 where
  pub within : u < length c.terms
  pub types : List SimpleType
  pub reads : tree_at c u ≡ applied_to t (descending top types)
  pub count : number + length types ≡ top

abbrev pub IsFresh : Contents → ℕ → SimpleType → Tree → Option ℕ → Type 0
IsFresh c top a t None = LeadsToType a (type_of t) → ⊥
IsFresh c top a t (Some u) = IsFreshOf c top a t u

-- the wanted form may be got with some of the variables
abbrev pub MayGet : Contents → List ℕ → Wanted → Tree → Type 0
MayGet c vars w t = MayHaveForm (map (type_at c) vars) (type_at c w.ty) (tree_at c w.form) t

-- the variable n of the type i may be the first argument
pub record IsFirstOf (c : Contents) (vars : List ℕ) (w : Wanted) (i t n : ℕ) : Type 0 where
  pub declared : slice_get vars n ≡ Some i
  pub there : MayGet c vars w (tree_at c t) → MayGet c vars w (app (tree_at c t) (variable n (type_at c i)))

abbrev pub IsFirst : Contents → List ℕ → Wanted → ℕ → ℕ → Option ℕ → Type 0
IsFirst c vars w i t None = MayGet c vars w (tree_at c t) → ⊥
IsFirst c vars w i t (Some n) = IsFirstOf c vars w i t n

-- u is t with one argument, with which it may get the form exactly if t may
pub record IsNextOf (c d : Contents) (vars : List ℕ) (w : Wanted) (t u : ℕ) : Type 0 where
  pub within : u < length d.terms
  pub falls : type_number d u < type_number c t
  pub there : MayGet c vars w (tree_at c t) → MayGet c vars w (tree_at d u)
  pub back : MayGet c vars w (tree_at d u) → MayGet c vars w (tree_at c t)

abbrev pub IsNext : Contents → Contents → List ℕ → Wanted → ℕ → Option ℕ → Type 0
IsNext c d vars w t None = MayGet c vars w (tree_at c t) → ⊥
IsNext c d vars w t (Some u) = IsNextOf c d vars w t u
