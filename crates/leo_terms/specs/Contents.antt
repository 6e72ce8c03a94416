-- What a bank contains, and how its numbers read as types and terms.
use Rattle.std.specs.Prelude.{ℕ, zero, suc, ◌≡◌, ◌^◌, ◌<◌, ◌≤◌, List, [], ◌∷◌, ◌++◌, length, slice_get, Option, Some, None, ◌⊎◌}
use Rattle.std.specs.Option.{option_map}
use Rattle.leo_terms.specs.declared.node.TyView.{TyView}
use Rattle.leo_terms.specs.declared.node.TyView.TheVariants.{Base, Arrow}
use Rattle.leo_terms.specs.declared.node.Op.{Op}
use Rattle.leo_terms.specs.declared.node.Op.TheVariants as op
use Rattle.leo_terms.specs.declared.node.View.{View}
use Rattle.leo_terms.specs.declared.node.View.TheVariants.{Var, Bound, Sym, App, Lam, Logic}
use Rattle.leo_terms.specs.declared.node.TermNode.{TermNode}
use Rattle.leo_q0.specs.Terms.{SimpleType, base, arrow}
use Rattle.leo_terms.specs.Tree.{Tree, variable, bound, symbol, app, lam, logic, absent, Connective, truth, falsity, negation, disjunction, conjunction, implication, equality, universal, existential, choice, IsBoundAt}

-- a symbol: its name, if it has one, and its type
pub record Symbol : Type 0 where
  pub name : Option (List ℕ)
  pub ty : ℕ

-- the lists of a bank, in which a number is a place, and how many base types there are
pub record Contents : Type 0 where
  pub bases : ℕ
  pub types : List TyView
  pub symbols : List Symbol
  pub terms : List TermNode

-- a bank at first
abbrev pub start : Contents
start = record { bases = 2; types = Base 0 ∷ Base 1 ∷ []; symbols = []; terms = [] }

-- a term's node
abbrev pub node : View → ℕ → TermNode
node v a = record { view = v; ty = a }

-- the type that a node stands for, where `read` reads the types before it
abbrev pub node_type : (ℕ → SimpleType) → Option TyView → SimpleType
node_type read None = base 0
node_type read (Some (Base n)) = base n
node_type read (Some (Arrow a b)) = arrow (read a) (read b)

-- the type with number i, through at most `depth` nodes
abbrev pub type_within : List TyView → ℕ → ℕ → SimpleType
type_within types zero i = base 0
type_within types (suc depth) i = node_type (type_within types depth) (slice_get types i)

-- the type with number i
unfoldable pub type_at : Contents → ℕ → SimpleType
type_at c i = type_within c.types (suc i) i

-- a logical constant, whose type is read
abbrev pub connective : Contents → Op → Connective
connective c op.True = truth
connective c op.False = falsity
connective c op.Not = negation
connective c op.Or = disjunction
connective c op.And = conjunction
connective c op.Imp = implication
connective c (op.Eq a) = equality (type_at c a)
connective c (op.All a) = universal (type_at c a)
connective c (op.Some a) = existential (type_at c a)
connective c (op.Eps a) = choice (type_at c a)

abbrev pub argument : (ℕ → Tree) → Option ℕ → Tree
argument read None = absent
argument read (Some x) = read x

-- the term that a view stands for, where `read` reads the terms before it
abbrev pub view_tree : Contents → (ℕ → Tree) → View → SimpleType → Tree
view_tree c read (Var n) a = variable n a
view_tree c read (Bound i) a = bound i a
view_tree c read (Sym s) a = symbol s a
view_tree c read (App f x) a = app (read f) (read x)
view_tree c read (Lam b t) a = lam (type_at c b) (read t)
view_tree c read (Logic o x y) a = logic (connective c o) (argument read x) (argument read y)

abbrev pub node_tree : Contents → (ℕ → Tree) → Option TermNode → Tree
node_tree c read None = absent
node_tree c read (Some n) = view_tree c read n.view (type_at c n.ty)

-- the term with number t, through at most `depth` nodes
abbrev pub tree_within : Contents → ℕ → ℕ → Tree
tree_within c zero t = absent
tree_within c (suc depth) t = node_tree c (tree_within c depth) (slice_get c.terms t)

-- the term with number t
unfoldable pub tree_at : Contents → ℕ → Tree
tree_at c t = tree_within c (suc t) t

abbrev pub number_in : Option TermNode → ℕ
number_in None = 0
number_in (Some n) = n.ty

-- the number of a term's type
unfoldable pub type_number : Contents → ℕ → ℕ
type_number c t = number_in (slice_get c.terms t)

abbrev pub argument_type : Contents → Option ℕ → Option ℕ
argument_type c None = None
argument_type c (Some x) = Some (type_number c x)

-- the type i is that of functions from a to b
pub record IsArrow (c : Contents) (i a b : ℕ) : Type 0 where
  pub arrow_node : slice_get c.types i ≡ Some (Arrow a b)

-- an argument that stands there, of type a
pub record IsOfType (x : Option ℕ) (a : ℕ) : Type 0 where
  pub argument_is : x ≡ Some a

-- an argument that stands there and is a property of things of type a
pub record IsProperty (c : Contents) (x : Option ℕ) (a : ℕ) : Type 0 where
  pub number : ℕ
  pub argument_is : x ≡ Some number
  pub property : IsArrow c number a 0

pub record IsMissing (x : Option ℕ) : Type 0 where
  pub argument_is : x ≡ None

-- a logical constant takes arguments of these types, and has type i then
abbrev pub Takes : Contents → Op → Option ℕ → Option ℕ → ℕ → Type 0
Takes c op.True x y i = IsMissing x × IsMissing y × (i ≡ 0)
Takes c op.False x y i = IsMissing x × IsMissing y × (i ≡ 0)
Takes c op.Not x y i = IsOfType x 0 × IsMissing y × (i ≡ 0)
Takes c op.Or x y i = IsOfType x 0 × IsOfType y 0 × (i ≡ 0)
Takes c op.And x y i = IsOfType x 0 × IsOfType y 0 × (i ≡ 0)
Takes c op.Imp x y i = IsOfType x 0 × IsOfType y 0 × (i ≡ 0)
Takes c (op.Eq a) x y i = IsOfType x a × IsOfType y a × (i ≡ 0)
Takes c (op.All a) x y i = IsProperty c x a × IsMissing y × (i ≡ 0)
Takes c (op.Some a) x y i = IsProperty c x a × IsMissing y × (i ≡ 0)
Takes c (op.Eps a) x y i = IsProperty c x a × IsMissing y × (i ≡ a)

-- an argument, if it stands there, has a number below n
abbrev pub IsArgumentBelow : ℕ → Option ℕ → Type 0
IsArgumentBelow n None = Unit {0}
IsArgumentBelow n (Some x) = x < n

-- a logical constant's type stands in the bank
abbrev pub HasTypeBelow : ℕ → Op → Type 0
HasTypeBelow n op.True = Unit {0}
HasTypeBelow n op.False = Unit {0}
HasTypeBelow n op.Not = Unit {0}
HasTypeBelow n op.Or = Unit {0}
HasTypeBelow n op.And = Unit {0}
HasTypeBelow n op.Imp = Unit {0}
HasTypeBelow n (op.Eq a) = a < n
HasTypeBelow n (op.All a) = a < n
HasTypeBelow n (op.Some a) = a < n
HasTypeBelow n (op.Eps a) = a < n

-- the symbol s has the type i
pub record IsSymbolOf (c : Contents) (s i : ℕ) : Type 0 where
  pub symbol_type : option_map (λ s. s.ty) (slice_get c.symbols s) ≡ Some i

pub record IsSoundApp (c : Contents) (n f x i : ℕ) : Type 0 where
  pub function_below : f < n
  pub argument_below : x < n
  pub typed : IsArrow c (type_number c f) (type_number c x) i

pub record IsSoundLam (c : Contents) (n a t i : ℕ) : Type 0 where
  pub body_below : t < n
  pub typed : IsArrow c i a (type_number c t)
  pub bound_typed : IsBoundAt 0 (type_at c a) (tree_at c t)

pub record IsSoundLogic (c : Contents) (n : ℕ) (o : Op) (x y : Option ℕ) (i : ℕ) : Type 0 where
  pub first_below : IsArgumentBelow n x
  pub second_below : IsArgumentBelow n y
  pub type_below : HasTypeBelow (length c.types) o
  pub typed : Takes c o (argument_type c x) (argument_type c y) i

-- a view of type i whose parts have numbers below n is well typed
abbrev pub IsSoundView : Contents → ℕ → View → ℕ → Type 0
IsSoundView c n (Var v) i = Unit {0}
IsSoundView c n (Bound b) i = Unit {0}
IsSoundView c n (Sym s) i = IsSymbolOf c s i
IsSoundView c n (App f x) i = IsSoundApp c n f x i
IsSoundView c n (Lam a t) i = IsSoundLam c n a t i
IsSoundView c n (Logic o x y) i = IsSoundLogic c n o x y i

-- the same of a lambda but for what its index is bound to, as public contracts say it
pub record IsTypedLam (c : Contents) (n a t i : ℕ) : Type 0 where
  pub body_below : t < n
  pub typed : IsArrow c i a (type_number c t)

abbrev pub IsTypedView : Contents → ℕ → View → ℕ → Type 0
IsTypedView c n (Var v) i = Unit {0}
IsTypedView c n (Bound b) i = Unit {0}
IsTypedView c n (Sym s) i = IsSymbolOf c s i
IsTypedView c n (App f x) i = IsSoundApp c n f x i
IsTypedView c n (Lam a t) i = IsTypedLam c n a t i
IsTypedView c n (Logic o x y) i = IsSoundLogic c n o x y i

pub record IsSoundNode (c : Contents) (n : ℕ) (t : TermNode) : Type 0 where
  pub type_below : t.ty < length c.types
  pub view_sound : IsSoundView c n t.view t.ty

-- a type's parts have numbers below n, and a base type is one of the first `bases`
abbrev pub IsSoundType : ℕ → ℕ → TyView → Type 0
IsSoundType bases n (Base b) = b < bases
IsSoundType bases n (Arrow a b) = (a < n) × (b < n)

-- no two places have one item
abbrev pub IsShared : {X : Type 0} → List X → Type 0
IsShared {X} xs = (i j : ℕ) (x : X) → slice_get xs i ≡ Some x → slice_get xs j ≡ Some x → i ≡ j

-- every type and term is well formed and stands once
pub record IsSound (c : Contents) : Type 0 where
  pub truth_first : slice_get c.types 0 ≡ Some (Base 0)
  pub thing_second : slice_get c.types 1 ≡ Some (Base 1)
  pub types_sound : (i : ℕ) (n : TyView) → slice_get c.types i ≡ Some n → IsSoundType c.bases i n
  pub types_shared : IsShared c.types
  pub symbols_sound : (s : ℕ) (n : Symbol) → slice_get c.symbols s ≡ Some n → n.ty < length c.types
  pub terms_sound : (t : ℕ) (n : TermNode) → slice_get c.terms t ≡ Some n → IsSoundNode c t n
  pub terms_shared : IsShared c.terms
  pub terms_fit : length c.terms < 2 ^ 64

-- every place of old has its item in new
abbrev pub IsKept : {X : Type 0} → List X → List X → Type 0
IsKept {X} old new = (i : ℕ) (x : X) → slice_get old i ≡ Some x → slice_get new i ≡ Some x

-- new is old, with an item at place n that old may have had there; no other item is new, and each stands once
pub record AddsShared {X : Type 0} (old new : List X) (x : X) (n : ℕ) : Type 0 where
  pub stored : slice_get new n ≡ Some x
  pub kept : IsKept old new
  pub only : (i : ℕ) (y : X) → slice_get new i ≡ Some y → (slice_get old i ≡ Some y) ⊎ ((i ≡ length old) × (y ≡ x))
  pub shared : IsShared new

-- what has a number in old has that number in new
pub record Keeps (old new : Contents) : Type 0 where
  pub types : IsKept old.types new.types
  pub symbols : IsKept old.symbols new.symbols
  pub terms : IsKept old.terms new.terms

-- both banks are sound, and the new one has gained types, symbols and terms at most
pub record Grows (old new : Contents) : Type 0 where
  pub old_sound : IsSound old
  pub new_sound : IsSound new
  pub bases : old.bases ≤ new.bases
  pub keeps : Keeps old new

-- The same facts in the words of public contracts. Their parts are behind words that do not unfold by themselves, so that a
-- search for a caller's proof does not go through all that they say; the lemmas for callers open them.

unfoldable pub Soundness : Contents → Type 0
Soundness c = IsSound c

-- c is what a bank contains: every type and term is well formed and stands once
pub record IsBank (c : Contents) : Type 0 where
  pub soundness : Soundness c
  pub base_types : 2 ≤ length c.types

unfoldable pub Growth : Contents → Contents → Type 0
Growth old new = Grows old new

-- new is old with more types, symbols and terms at most: all earlier numbers keep their meaning
pub record Extends (old new : Contents) : Type 0 where
  pub growth : Growth old new
  pub base_types : 2 ≤ length old.types
  pub types_more : length old.types ≤ length new.types
  pub symbols_more : length old.symbols ≤ length new.symbols
  pub terms_more : length old.terms ≤ length new.terms

unfoldable pub Addition : {X : Type 0} → List X → List X → X → ℕ → Type 0
Addition old new x n = AddsShared old new x n

-- x stands at place n of new and nowhere else, and new is old with x, which old may have had there
pub record IsAdded {X : Type 0} (old new : List X) (x : X) (n : ℕ) : Type 0 where
  pub stored : slice_get new n ≡ Some x
  pub addition : Addition old new x n

-- the number of what the functions of a type give
abbrev pub codomain_in : Option TyView → ℕ
codomain_in None = 0
codomain_in (Some (Base n)) = 0
codomain_in (Some (Arrow a b)) = b

unfoldable pub codomain_number : Contents → ℕ → ℕ
codomain_number c i = codomain_in (slice_get c.types i)

-- t is a term of the bank, whose type has number i and which reads as s
pub record IsTerm (c : Contents) (t i : ℕ) (s : Tree) : Type 0 where
  pub within : t < length c.terms
  pub type_is : type_number c t ≡ i
  pub reads : tree_at c t ≡ s

-- the number of the type of a logical constant with its arguments
abbrev pub operator_type : Op → ℕ
operator_type (op.Eps a) = a
operator_type op.True = 0
operator_type op.False = 0
operator_type op.Not = 0
operator_type op.Or = 0
operator_type op.And = 0
operator_type op.Imp = 0
operator_type (op.Eq a) = 0
operator_type (op.All a) = 0
operator_type (op.Some a) = 0

abbrev pub symbol_type_in : Option Symbol → ℕ
symbol_type_in None = 0
symbol_type_in (Some s) = s.ty

-- the number of a symbol's type
unfoldable pub symbol_type : Contents → ℕ → ℕ
symbol_type c s = symbol_type_in (slice_get c.symbols s)

-- f may be applied to x
abbrev pub IsApplicable : Contents → ℕ → ℕ → Type 0
IsApplicable c f x = IsArrow c (type_number c f) (type_number c x) (codomain_number c (type_number c f))

-- no symbol has this name
abbrev pub IsNewName : Contents → List ℕ → Type 0
IsNewName c name = (s : ℕ) (x : Symbol) → slice_get c.symbols s ≡ Some x → x.name ≡ Some name → ⊥

-- new is old with one more symbol, s
pub record AddsSymbol (old new : Contents) (x : Symbol) (s : ℕ) : Type 0 where
  pub last : s ≡ length old.symbols
  pub appended : new ≡ record { bases = old.bases; types = old.types; symbols = old.symbols ++ x ∷ []; terms = old.terms }

-- x is an argument that may be missing, whose type has number i and which reads as s
pub record IsArgumentTerm (c : Contents) (x i : Option ℕ) (s : Tree) : Type 0 where
  pub within : IsArgumentBelow (length c.terms) x
  pub type_is : argument_type c x ≡ i
  pub reads : argument (tree_at c) x ≡ s

-- each of these numbers is a term of the bank
abbrev pub AreTerms : Contents → List ℕ → Type 0
AreTerms c ts = (n t : ℕ) → slice_get ts n ≡ Some t → t < length c.terms
