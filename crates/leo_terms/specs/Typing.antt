-- When a term that is written as a tree is well typed.
use Rattle.std.specs.Prelude.{◌≡◌}
use Rattle.leo_q0.specs.Terms.{SimpleType, arrow}
use Rattle.leo_terms.specs.Tree.{codomain, truth_type, Tree, variable, bound, symbol, app, lam, logic, absent, Connective, truth, falsity, negation, disjunction, conjunction, implication, equality, universal, existential, choice, type_of, IsBoundAt}

-- a term stands there
abbrev pub IsPresent : Tree → Type 0
IsPresent absent = ⊥
IsPresent (variable n a) = Unit {0}
IsPresent (bound i a) = Unit {0}
IsPresent (symbol n a) = Unit {0}
IsPresent (app f x) = Unit {0}
IsPresent (lam a t) = Unit {0}
IsPresent (logic c x y) = Unit {0}

-- a term of this type stands there
abbrev pub IsPresentOf : SimpleType → Tree → Type 0
IsPresentOf a t = IsPresent t × (type_of t ≡ a)

-- a logical constant takes these arguments
abbrev pub TakesTrees : Connective → Tree → Tree → Type 0
TakesTrees truth x y = (x ≡ absent) × (y ≡ absent)
TakesTrees falsity x y = (x ≡ absent) × (y ≡ absent)
TakesTrees negation x y = IsPresentOf truth_type x × (y ≡ absent)
TakesTrees disjunction x y = IsPresentOf truth_type x × IsPresentOf truth_type y
TakesTrees conjunction x y = IsPresentOf truth_type x × IsPresentOf truth_type y
TakesTrees implication x y = IsPresentOf truth_type x × IsPresentOf truth_type y
TakesTrees (equality a) x y = IsPresentOf a x × IsPresentOf a y
TakesTrees (universal a) x y = IsPresentOf (arrow a truth_type) x × (y ≡ absent)
TakesTrees (existential a) x y = IsPresentOf (arrow a truth_type) x × (y ≡ absent)
TakesTrees (choice a) x y = IsPresentOf (arrow a truth_type) x × (y ≡ absent)

-- functions are applied to arguments of their types, and each lambda binds indices of its type
abbrev pub IsWellTyped : Tree → Type 0
IsWellTyped (variable n a) = Unit {0}
IsWellTyped (bound i a) = Unit {0}
IsWellTyped (symbol n a) = Unit {0}
IsWellTyped (app f x) = IsWellTyped f × IsWellTyped x × IsPresent f × IsPresent x × (type_of f ≡ arrow (type_of x) (codomain (type_of f)))
IsWellTyped (lam a t) = IsWellTyped t × IsPresent t × IsBoundAt 0 a t
IsWellTyped (logic c x y) = IsWellTyped x × IsWellTyped y × TakesTrees c x y
IsWellTyped absent = Unit {0}
