-- Terms as plain trees: simply typed, with de Bruijn indices. Each variable, index and symbol carries its type.
use Rattle.std.specs.Prelude.{ℕ, ◌≡◌, ◌+◌, ◌-◌, nat_lt, nat_eq, if◌then◌else◌, List, slice_get, Option, Some, None}
use Rattle.leo_q0.specs.Terms.{SimpleType, base, arrow}

-- the type of truth values
abbrev pub truth_type : SimpleType
truth_type = base 0

-- what a function of this type gives
abbrev pub codomain : SimpleType → SimpleType
codomain (base n) = base n
codomain (arrow a b) = b

-- a logical constant
pub data Connective : Type 0 where
  truth : Connective
  falsity : Connective
  negation : Connective
  disjunction : Connective
  conjunction : Connective
  implication : Connective
  equality : SimpleType → Connective
  universal : SimpleType → Connective
  existential : SimpleType → Connective
  choice : SimpleType → Connective

-- a term; `absent` stands in the place of an argument that a logical constant does not take
pub data Tree : Type 0 where
  variable : ℕ → SimpleType → Tree
  bound : ℕ → SimpleType → Tree
  symbol : ℕ → SimpleType → Tree
  app : Tree → Tree → Tree
  lam : SimpleType → Tree → Tree
  logic : Connective → Tree → Tree → Tree
  absent : Tree

-- the type of a logical constant with its arguments
abbrev pub connective_type : Connective → SimpleType
connective_type (choice a) = a
connective_type truth = truth_type
connective_type falsity = truth_type
connective_type negation = truth_type
connective_type disjunction = truth_type
connective_type conjunction = truth_type
connective_type implication = truth_type
connective_type (equality a) = truth_type
connective_type (universal a) = truth_type
connective_type (existential a) = truth_type

-- the type of a term that is well typed
abbrev pub type_of : Tree → SimpleType
type_of (variable n a) = a
type_of (bound i a) = a
type_of (symbol s a) = a
type_of (app f x) = codomain (type_of f)
type_of (lam a b) = arrow a (type_of b)
type_of (logic c x y) = connective_type c
type_of absent = truth_type

-- the index `k`, where it is loose in the term, has this type
abbrev pub IsBoundAt : ℕ → SimpleType → Tree → Type 0
IsBoundAt k a (variable n b) = Unit {0}
IsBoundAt k a (bound i b) = i ≡ k → b ≡ a
IsBoundAt k a (symbol s b) = Unit {0}
IsBoundAt k a (app f x) = IsBoundAt k a f × IsBoundAt k a x
IsBoundAt k a (lam b t) = IsBoundAt (k + 1) a t
IsBoundAt k a (logic c x y) = IsBoundAt k a x × IsBoundAt k a y
IsBoundAt k a absent = Unit {0}

-- the term with each index from `from` on raised by `by`
abbrev pub lifted : ℕ → ℕ → Tree → Tree
lifted from by (variable n a) = variable n a
lifted from by (bound i a) = if nat_lt i from then bound i a else bound (i + by) a
lifted from by (symbol s a) = symbol s a
lifted from by (app f x) = app (lifted from by f) (lifted from by x)
lifted from by (lam a t) = lam a (lifted (from + 1) by t)
lifted from by (logic c x y) = logic c (lifted from by x) (lifted from by y)
lifted from by absent = absent

-- what stands for the index `i` under `k` lambdas, once `s` is put in for the index `k`
abbrev pub bound_opened : ℕ → Tree → ℕ → SimpleType → Tree
bound_opened k s i a =
    if nat_lt i k then bound i a else (if nat_eq i k then lifted 0 k s else bound (i - 1) a)

-- the term with `s` put in for the index `k`, and the indices above it lowered
abbrev pub opened : ℕ → Tree → Tree → Tree
opened k s (variable n a) = variable n a
opened k s (bound i a) = bound_opened k s i a
opened k s (symbol n a) = symbol n a
opened k s (app f x) = app (opened k s f) (opened k s x)
opened k s (lam a t) = lam a (opened (k + 1) s t)
opened k s (logic c x y) = logic c (opened k s x) (opened k s y)
opened k s absent = absent

-- what stands for the variable n under k lambdas, where its term is given
abbrev pub variable_given : ℕ → Option Tree → ℕ → SimpleType → Tree
variable_given k None n a = variable n a
variable_given k (Some s) n a = lifted 0 k s

-- the term under k lambdas, with the given terms put in for the variables of their numbers
abbrev pub substituted : List Tree → ℕ → Tree → Tree
substituted given k (variable n a) = variable_given k (slice_get given n) n a
substituted given k (bound i a) = bound i a
substituted given k (symbol n a) = symbol n a
substituted given k (app f x) = app (substituted given k f) (substituted given k x)
substituted given k (lam a t) = lam a (substituted given (k + 1) t)
substituted given k (logic c x y) = logic c (substituted given k x) (substituted given k y)
substituted given k absent = absent

abbrev pub IsOfTypeIfGiven : SimpleType → Option Tree → Type 0
IsOfTypeIfGiven a None = ⊥
IsOfTypeIfGiven a (Some s) = type_of s ≡ a

-- each variable of the term is given a term of its type
abbrev pub IsGiven : List Tree → Tree → Type 0
IsGiven given (variable n a) = IsOfTypeIfGiven a (slice_get given n)
IsGiven given (bound i a) = Unit {0}
IsGiven given (symbol n a) = Unit {0}
IsGiven given (app f x) = IsGiven given f × IsGiven given x
IsGiven given (lam a t) = IsGiven given t
IsGiven given (logic c x y) = IsGiven given x × IsGiven given y
IsGiven given absent = Unit {0}

-- the same two in the words of public contracts, which do not unfold by themselves: the term with all its loose indices raised,
-- and the term with the given terms put in for its variables
unfoldable pub raised : ℕ → Tree → Tree
raised by t = lifted 0 by t

unfoldable pub put_in : List Tree → Tree → Tree
put_in given t = substituted given 0 t
