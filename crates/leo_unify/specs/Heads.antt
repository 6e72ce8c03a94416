-- Heads, and what is known of a variable that is bound. No public contract speaks of it.
use Rattle.std.specs.Prelude.{ℕ, ◌≡◌, Bool, true, false, List, [], ◌∷◌, length, map, Option, Some, None}
use Rattle.leo_q0.specs.Terms.{SimpleType, base, arrow}
use Rattle.leo_terms.specs.Tree.{Tree, variable, bound, symbol, app, lam, logic, absent, Connective, truth, falsity, negation, disjunction, conjunction, implication, equality, universal, existential, choice, IsBoundAt}
use Rattle.leo_terms.specs.Contents.{Contents, AreTerms, tree_at, type_at}
use Rattle.leo_clause.specs.Typed.{AreTypesOf}
use Rattle.leo_unify.specs.declared.binding.Frame.{Frame}
use Rattle.leo_unify.specs.declared.binding.Binding as declared_binding
use Rattle.leo_unify.specs.Acts.{Binding, binders}

-- what stands at the top of a type
abbrev pub arrow_of : SimpleType → Option (SimpleType × SimpleType)
arrow_of (base n) = None
arrow_of (arrow a b) = Some (a, b)

-- a term that may be a head
abbrev pub is_head : Tree → Bool
is_head (variable n a) = true
is_head (bound i a) = true
is_head (symbol s a) = true
is_head (logic c x y) = true
is_head (app f x) = false
is_head (lam a t) = false
is_head absent = false

-- how many arguments stand with a logical constant itself
abbrev pub own_arguments : Connective → ℕ
own_arguments truth = 0
own_arguments falsity = 0
own_arguments negation = 1
own_arguments disjunction = 2
own_arguments conjunction = 2
own_arguments implication = 2
own_arguments (equality a) = 2
own_arguments (universal a) = 1
own_arguments (existential a) = 1
own_arguments (choice a) = 1

-- each index of the term has its type in the body of a function of arguments of these types
abbrev pub AreIndexed : List SimpleType → Tree → Type 0
AreIndexed [] t = Unit {0}
AreIndexed (a ∷ types) t = IsBoundAt (length types) a t × AreIndexed types t

-- the same of a head, if it is an index
abbrev pub IsIndexedHead : List SimpleType → Tree → Type 0
IsIndexedHead outer (bound i a) = AreIndexed outer (bound i a)
IsIndexedHead outer (variable n a) = Unit {0}
IsIndexedHead outer (symbol s a) = Unit {0}
IsIndexedHead outer (app f x) = Unit {0}
IsIndexedHead outer (lam a t) = Unit {0}
IsIndexedHead outer (logic c x y) = Unit {0}
IsIndexedHead outer absent = Unit {0}

-- the numbers of a frame are numbers of the bank, and it has the arguments of a function's body
pub record IsFrameOf (c : Contents) (f : Frame) : Type 0 where
  pub types_of : AreTypesOf c f.outer
  pub binders_of : AreTerms c f.binders
  pub binders_are : map (tree_at c) f.binders ≡ binders (map (type_at c) f.outer)

-- a binding, if there is one, as a list
abbrev pub listed : Option Binding → List Binding
listed None = []
listed (Some b) = b ∷ []

abbrev pub listed_bindings : Option declared_binding.Binding → List declared_binding.Binding
listed_bindings None = []
listed_bindings (Some b) = b ∷ []
