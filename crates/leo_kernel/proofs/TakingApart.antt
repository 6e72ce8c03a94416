-- Taking a literal apart by a function gives what the rows say.
use Rattle.std.proofs.Common.{ℕ, ◌≡◌, Bool, true, false, List, Option, Some, None, refl}
use Rattle.leo_q0.specs.Terms.{SimpleType}
use Rattle.leo_terms.specs.Tree.{Tree, variable, bound, symbol, app, lam, logic, absent, Connective, truth, falsity, negation, disjunction, conjunction, implication, equality, universal, existential, choice}
use Rattle.leo_terms.specs.Typing.{IsWellTyped}
use Rattle.leo_clause.specs.declared.record.LogicKind.{LogicKind}
use Rattle.leo_clause.specs.declared.record.LogicKind.TheVariants.{Not, OrT, OrF1, OrF2, AndT1, AndT2, AndF, ImpT, ImpF1, ImpF2, EqT, EqF, Flip, AllT, SomeF}
use Rattle.leo_clause.specs.Trees.{Literal}
use Rattle.leo_kernel.specs.Shapes.{truth_tree, not_tree, or_tree, and_tree, imp_tree, eq_tree, all_tree, some_tree, unequal, valued}
use Rattle.leo_kernel.specs.Rows.{TakesApart, not_v, or_t, or_f1, or_f2, and_t1, and_t2, and_f, imp_t, imp_f1, imp_f2, eq_t, eq_f, flip, all_t, some_f}
use Rattle.leo_kernel.specs.Parts.{Formula, negated, disjoined, conjoined, implied, equated, for_all, for_some, other, formula_of, formula_by, value_of, value_by, Pieces, taken_by, flipped_by, by_polarity, pieces_of}

pub rows-pieces : (next : ℕ) (kind : LogicKind) (l : Literal) (fresh : List SimpleType) (new : List Literal) → TakesApart next kind l fresh new → pieces_of next kind l ≡ Some (record { fresh = fresh; new = new })
rows-pieces next kind l fresh new (not_v a true) = refl
rows-pieces next kind l fresh new (not_v a false) = refl
rows-pieces next kind l fresh new (or_t a b) = refl
rows-pieces next kind l fresh new (or_f1 a b) = refl
rows-pieces next kind l fresh new (or_f2 a b) = refl
rows-pieces next kind l fresh new (and_t1 a b) = refl
rows-pieces next kind l fresh new (and_t2 a b) = refl
rows-pieces next kind l fresh new (and_f a b) = refl
rows-pieces next kind l fresh new (imp_t a b) = refl
rows-pieces next kind l fresh new (imp_f1 a b) = refl
rows-pieces next kind l fresh new (imp_f2 a b) = refl
rows-pieces next kind l fresh new (eq_t c s t) = refl
rows-pieces next kind l fresh new (eq_f c s t) = refl
rows-pieces next kind l fresh new (flip a true) = refl
rows-pieces next kind l fresh new (flip a false) = refl
rows-pieces next kind l fresh new (all_t c p) = refl
rows-pieces next kind l fresh new (some_f c p) = refl

-- a well-typed term that shows as T or F is it
value-tree_by : (c : Connective) (x y : Tree) (v : Bool) → IsWellTyped (logic c x y) → value_by c ≡ Some v → logic c x y ≡ truth_tree v
value-tree_by truth x y true w e = rw (w.2.0, w.2.1) refl
value-tree_by truth x y false w e = cc
value-tree_by falsity x y true w e = cc
value-tree_by falsity x y false w e = rw (w.2.0, w.2.1) refl
value-tree_by negation x y v w e = cc
value-tree_by disjunction x y v w e = cc
value-tree_by conjunction x y v w e = cc
value-tree_by implication x y v w e = cc
value-tree_by (equality a) x y v w e = cc
value-tree_by (universal a) x y v w e = cc
value-tree_by (existential a) x y v w e = cc
value-tree_by (choice a) x y v w e = cc

pub value-tree : (t : Tree) (v : Bool) → IsWellTyped t → value_of t ≡ Some v → t ≡ truth_tree v
value-tree (logic c x y) v w e = value-tree_by c x y v w e
value-tree (variable n a) v w e = cc
value-tree (bound n a) v w e = cc
value-tree (symbol n a) v w e = cc
value-tree (app f x) v w e = cc
value-tree (lam a t) v w e = cc
value-tree absent v w e = cc

-- the term that a formula is the top of
abbrev pub shown : Tree → Formula → Type 0
shown t (negated a) = t ≡ not_tree a
shown t (disjoined a b) = t ≡ or_tree a b
shown t (conjoined a b) = t ≡ and_tree a b
shown t (implied a b) = t ≡ imp_tree a b
shown t (equated c a b) = t ≡ eq_tree c a b
shown t (for_all c p) = t ≡ all_tree c p
shown t (for_some c p) = t ≡ some_tree c p
shown t other = Unit {0}

formula-shown_by : (c : Connective) (x y : Tree) → IsWellTyped (logic c x y) → shown (logic c x y) (formula_by c x y)
formula-shown_by truth x y w = tt
formula-shown_by falsity x y w = tt
formula-shown_by negation x y w = rw (w.2.1) refl
formula-shown_by disjunction x y w = refl
formula-shown_by conjunction x y w = refl
formula-shown_by implication x y w = refl
formula-shown_by (equality a) x y w = refl
formula-shown_by (universal a) x y w = rw (w.2.1) refl
formula-shown_by (existential a) x y w = rw (w.2.1) refl
formula-shown_by (choice a) x y w = tt

pub formula-shown : (t : Tree) → IsWellTyped t → shown t (formula_of t)
formula-shown (logic c x y) w = formula-shown_by c x y w
formula-shown (variable n a) w = tt
formula-shown (bound n a) w = tt
formula-shown (symbol n a) w = tt
formula-shown (app f x) w = tt
formula-shown (lam a t) w = tt
formula-shown absent w = tt

-- a row for what the function gives
abbrev pub Row : ℕ → LogicKind → Literal → Option Pieces → Type 0
Row next kind l None = Unit {0}
Row next kind l (Some p) = TakesApart next kind l p.fresh p.new

row-taken : (next : ℕ) (kind : LogicKind) (t : Tree) (f : Formula) (v : Bool) → shown t f → Row next kind (valued t v) (taken_by next kind f v)
row-taken next Not t (negated a) v e = rw e (not_v a v)
row-taken next OrT t (disjoined a b) true e = rw e (or_t a b)
row-taken next OrF1 t (disjoined a b) false e = rw e (or_f1 a b)
row-taken next OrF2 t (disjoined a b) false e = rw e (or_f2 a b)
row-taken next AndT1 t (conjoined a b) true e = rw e (and_t1 a b)
row-taken next AndT2 t (conjoined a b) true e = rw e (and_t2 a b)
row-taken next AndF t (conjoined a b) false e = rw e (and_f a b)
row-taken next ImpT t (implied a b) true e = rw e (imp_t a b)
row-taken next ImpF1 t (implied a b) false e = rw e (imp_f1 a b)
row-taken next ImpF2 t (implied a b) false e = rw e (imp_f2 a b)
row-taken next EqT t (equated c a b) true e = rw e (eq_t c a b)
row-taken next EqF t (equated c a b) false e = rw e (eq_f c a b)
row-taken next AllT t (for_all c p) true e = rw e (all_t c p)
row-taken next SomeF t (for_some c p) false e = rw e (some_f c p)
row-taken next _ t (negated a) v e = tt
row-taken next _ t (disjoined a b) v e = tt
row-taken next _ t (conjoined a b) v e = tt
row-taken next _ t (implied a b) v e = tt
row-taken next _ t (equated c a b) v e = tt
row-taken next _ t (for_all c p) v e = tt
row-taken next _ t (for_some c p) v e = tt
row-taken next _ t other v e = tt

row-flipped : (next : ℕ) (kind : LogicKind) (t : Tree) (v : Bool) → Row next kind (unequal t (truth_tree v)) (flipped_by kind t v)
row-flipped next Flip t v = flip t v
row-flipped next _ t v = tt

pieces-row_by : (next : ℕ) (kind : LogicKind) (s t : Tree) (o : Option Bool) (positive : Bool) → IsWellTyped s → ((v : Bool) → o ≡ Some v → t ≡ truth_tree v) → Row next kind (record { positive = positive; left = s; right = t }) (by_polarity next kind s o positive)
pieces-row_by next kind s t None true w e = tt
pieces-row_by next kind s t None false w e = tt
pieces-row_by next kind s t (Some v) true w e = rw (e v refl) (row-taken next kind s (formula_of s) v (formula-shown s w))
pieces-row_by next kind s t (Some v) false w e = rw (e v refl) (row-flipped next kind s v)

-- what the function gives for a literal of well-typed terms is a row
pub pieces-row : (next : ℕ) (kind : LogicKind) (l : Literal) → IsWellTyped l.left → IsWellTyped l.right → Row next kind l (pieces_of next kind l)
pieces-row next kind l w u = pieces-row_by next kind l.left l.right (value_of l.right) l.positive w (λ v e. value-tree l.right v u e)
