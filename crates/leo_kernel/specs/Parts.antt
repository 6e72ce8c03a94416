-- What the calls that take literals apart say to one another: the top of a formula, its truth value, and what it becomes.
-- No public contract speaks of it.
use Rattle.std.specs.Prelude.{ℕ, Bool, true, false, not, List, [], ◌∷◌, length, Option, Some, None}
use Rattle.leo_q0.specs.Terms.{SimpleType}
use Rattle.leo_terms.specs.Tree.{Tree, variable, bound, symbol, app, lam, logic, absent, Connective, truth, falsity, negation, disjunction, conjunction, implication, equality, universal, existential, choice}
use Rattle.leo_clause.specs.declared.record.LogicKind.{LogicKind}
use Rattle.leo_clause.specs.declared.record.LogicKind.TheVariants.{Not, OrT, OrF1, OrF2, AndT1, AndT2, AndF, ImpT, ImpF1, ImpF2, EqT, EqF, Flip, AllT, SomeF}
use Rattle.leo_clause.specs.Trees.{Literal, ClauseTree}
use Rattle.leo_kernel.specs.Conclusions.{with_new}
use Rattle.leo_kernel.specs.Shapes.{equal, unequal, valued}

-- the top of a term as a formula
pub data Formula : Type 0 where
  negated : Tree → Formula
  disjoined : Tree → Tree → Formula
  conjoined : Tree → Tree → Formula
  implied : Tree → Tree → Formula
  equated : SimpleType → Tree → Tree → Formula
  for_all : SimpleType → Tree → Formula
  for_some : SimpleType → Tree → Formula
  other : Formula

abbrev pub formula_by : Connective → Tree → Tree → Formula
formula_by truth x y = other
formula_by falsity x y = other
formula_by negation x y = negated x
formula_by disjunction x y = disjoined x y
formula_by conjunction x y = conjoined x y
formula_by implication x y = implied x y
formula_by (equality a) x y = equated a x y
formula_by (universal a) x y = for_all a x
formula_by (existential a) x y = for_some a x
formula_by (choice a) x y = other

abbrev pub formula_of : Tree → Formula
formula_of (variable n a) = other
formula_of (bound i a) = other
formula_of (symbol n a) = other
formula_of (app f x) = other
formula_of (lam a t) = other
formula_of (logic c x y) = formula_by c x y
formula_of absent = other

-- whether the term is T or F
abbrev pub value_by : Connective → Option Bool
value_by truth = Some true
value_by falsity = Some false
value_by negation = None
value_by disjunction = None
value_by conjunction = None
value_by implication = None
value_by (equality a) = None
value_by (universal a) = None
value_by (existential a) = None
value_by (choice a) = None

abbrev pub value_of : Tree → Option Bool
value_of (variable n a) = None
value_of (bound i a) = None
value_of (symbol n a) = None
value_of (app f x) = None
value_of (lam a t) = None
value_of (logic c x y) = value_by c
value_of absent = None

-- what a literal becomes, with a fresh variable where there is a type
pub record Pieces : Type 0 where
  pub fresh : List SimpleType
  pub new : List Literal

abbrev pub pieces : List Literal → Option Pieces
pieces new = Some (record { fresh = []; new = new })

abbrev pub with_fresh : ℕ → SimpleType → Tree → Bool → Option Pieces
with_fresh next c p v = Some (record { fresh = c ∷ []; new = valued (app p (variable next c)) v ∷ [] })

-- what `A = v` becomes, by the top of A
abbrev pub taken_not : LogicKind → Tree → Bool → Option Pieces
taken_not Not a v = pieces (valued a (not v) ∷ [])
taken_not _ a v = None

abbrev pub taken_or : LogicKind → Tree → Tree → Bool → Option Pieces
taken_or OrT a b true = pieces (valued a true ∷ valued b true ∷ [])
taken_or OrF1 a b false = pieces (valued a false ∷ [])
taken_or OrF2 a b false = pieces (valued b false ∷ [])
taken_or _ a b _ = None

abbrev pub taken_and : LogicKind → Tree → Tree → Bool → Option Pieces
taken_and AndT1 a b true = pieces (valued a true ∷ [])
taken_and AndT2 a b true = pieces (valued b true ∷ [])
taken_and AndF a b false = pieces (valued a false ∷ valued b false ∷ [])
taken_and _ a b _ = None

abbrev pub taken_imp : LogicKind → Tree → Tree → Bool → Option Pieces
taken_imp ImpT a b true = pieces (valued a false ∷ valued b true ∷ [])
taken_imp ImpF1 a b false = pieces (valued a true ∷ [])
taken_imp ImpF2 a b false = pieces (valued b false ∷ [])
taken_imp _ a b _ = None

abbrev pub taken_eq : LogicKind → Tree → Tree → Bool → Option Pieces
taken_eq EqT s t true = pieces (equal s t ∷ [])
taken_eq EqF s t false = pieces (unequal s t ∷ [])
taken_eq _ s t _ = None

abbrev pub taken_all : ℕ → LogicKind → SimpleType → Tree → Bool → Option Pieces
taken_all next AllT c p true = with_fresh next c p true
taken_all next _ c p _ = None

abbrev pub taken_some : ℕ → LogicKind → SimpleType → Tree → Bool → Option Pieces
taken_some next SomeF c p false = with_fresh next c p false
taken_some next _ c p _ = None

abbrev pub taken_by : ℕ → LogicKind → Formula → Bool → Option Pieces
taken_by next kind (negated a) v = taken_not kind a v
taken_by next kind (disjoined a b) v = taken_or kind a b v
taken_by next kind (conjoined a b) v = taken_and kind a b v
taken_by next kind (implied a b) v = taken_imp kind a b v
taken_by next kind (equated c s t) v = taken_eq kind s t v
taken_by next kind (for_all c p) v = taken_all next kind c p v
taken_by next kind (for_some c p) v = taken_some next kind c p v
taken_by next kind other v = None

-- what `A ≠ v` becomes
abbrev pub flipped_by : LogicKind → Tree → Bool → Option Pieces
flipped_by Flip a v = pieces (valued a (not v) ∷ [])
flipped_by _ a v = None

abbrev pub by_polarity : ℕ → LogicKind → Tree → Option Bool → Bool → Option Pieces
by_polarity next kind a None positive = None
by_polarity next kind a (Some v) true = taken_by next kind (formula_of a) v
by_polarity next kind a (Some v) false = flipped_by kind a v

abbrev pub pieces_of : ℕ → LogicKind → Literal → Option Pieces
pieces_of next kind l = by_polarity next kind l.left (value_of l.right) l.positive

abbrev pub one_piece : Tree → Bool → Option Pieces
one_piece a v = pieces (valued a v ∷ [])

abbrev pub two_pieces : Tree → Bool → Tree → Bool → Option Pieces
two_pieces a v b w = pieces (valued a v ∷ valued b w ∷ [])

-- the clause with `P X = v` in a literal's place, for a fresh variable X
abbrev pub with_fresh_value : ClauseTree → ℕ → SimpleType → Tree → Bool → ClauseTree
with_fresh_value parent place c p v = with_new parent place (c ∷ []) (valued (app p (variable (length parent.variables) c)) v ∷ [])
