-- Normal forms in a bank.
use Rattle.std.proofs.Common.{ℕ, zero, suc, ◌≡◌, ◌<◌, length, Option, refl, sym, ◌∙◌, ap, ◌⊎◌, inl, inr, arith}
use Rattle.leo_terms.specs.declared.node.Op.{Op}
use Rattle.leo_terms.specs.declared.node.Op.TheVariants as op
use Rattle.leo_terms.specs.declared.node.View.{View}
use Rattle.leo_terms.specs.declared.node.View.TheVariants.{Var, Bound, Sym, App, Lam, Logic}
use Rattle.leo_q0.specs.Terms.{SimpleType, arrow}
use Rattle.leo_terms.specs.Tree.{codomain, Tree, variable, bound, symbol, app, lam, logic, absent, connective_type, type_of}
use Rattle.leo_terms.specs.Reduction.{IsBase, IsNormal}
use Rattle.leo_terms.specs.Contents.{Contents, type_at, tree_at, connective, type_number, Takes, IsArrow, IsSound}
use Rattle.leo_terms.proofs.Growth.{slice_get-some, ty-base, ty-arrow, tree-node, type_number-node}
use Rattle.leo_terms.proofs.Rebuild.{HasView, view_sound, tree-app, tree-lam, tree-logic}

connective-type : (c : Contents) → IsSound c → (o : Op) (x y : Option ℕ) (i : ℕ) → Takes c o x y i → connective_type (connective c o) ≡ type_at c i
connective-type c s op.True x y i h = rw (h.2, ty-base c 0 0 s.truth_first) refl
connective-type c s op.False x y i h = rw (h.2, ty-base c 0 0 s.truth_first) refl
connective-type c s op.Not x y i h = rw (h.2, ty-base c 0 0 s.truth_first) refl
connective-type c s op.Or x y i h = rw (h.2, ty-base c 0 0 s.truth_first) refl
connective-type c s op.And x y i h = rw (h.2, ty-base c 0 0 s.truth_first) refl
connective-type c s op.Imp x y i h = rw (h.2, ty-base c 0 0 s.truth_first) refl
connective-type c s (op.Eq a) x y i h = rw (h.2, ty-base c 0 0 s.truth_first) refl
connective-type c s (op.All a) x y i h = rw (h.2, ty-base c 0 0 s.truth_first) refl
connective-type c s (op.Some a) x y i h = rw (h.2, ty-base c 0 0 s.truth_first) refl
connective-type c s (op.Eps a) x y i h = rw h.2 refl

view-type : (c : Contents) → IsSound c → (t : ℕ) (v : View) → ((u : ℕ) → u < t → type_of (tree_at c u) ≡ type_at c (type_number c u)) → HasView c t v → type_of (tree_at c t) ≡ type_at c (type_number c t)
view-type c s t (Var n) ih v = rw (tree-node c s t (Var n) (type_number c t) v) refl
view-type c s t (Bound n) ih v = rw (tree-node c s t (Bound n) (type_number c t) v) refl
view-type c s t (Sym n) ih v = rw (tree-node c s t (Sym n) (type_number c t) v) refl
view-type c s t (App f x) ih v =
    let p = view_sound c s t (App f x) v in
    let e : type_at c (type_number c f) ≡ arrow (type_at c (type_number c x)) (type_at c (type_number c t)) = ty-arrow c s _ _ _ p.0.typed.arrow_node in
    rw (tree-app c s t f x v) (ap codomain (ih f p.0.function_below ∙ e))
view-type c s t (Lam a b) ih v =
    let p = view_sound c s t (Lam a b) v in
    rw (tree-lam c s t a b v) (ap (arrow (type_at c a)) (ih b p.0.body_below) ∙ sym (ty-arrow c s _ _ _ p.0.typed.arrow_node))
view-type c s t (Logic o x y) ih v =
    let p = view_sound c s t (Logic o x y) v in
    rw (tree-logic c s t o x y v) (connective-type c s o _ _ _ p.0.typed)

type_of-tree_below : (c : Contents) → IsSound c → (n t : ℕ) → t < n → t < length c.terms → type_of (tree_at c t) ≡ type_at c (type_number c t)
type_of-tree_below c s zero t p q = absurd (omega arith)
type_of-tree_below c s (suc n) t p q =
    let w = slice_get-some c.terms t q in
    let e = type_number-node c t w.0 w.1 in
    view-type c s t w.0.view (λ u h. type_of-tree_below c s n u (omega arith) (omega arith)) (rw e w.1)

-- a term's tree has the term's type
pub type_of-tree : (c : Contents) → IsSound c → (t : ℕ) → t < length c.terms → type_of (tree_at c t) ≡ type_at c (type_number c t)
type_of-tree c s t h = type_of-tree_below c s (suc t) t (omega arith) h

-- a normal term is a lambda or has a base type
base_or_lam : (t : Tree) → IsNormal t → IsBase (type_of t) ⊎ ((a : SimpleType) × (b : Tree) × (t ≡ lam a b))
base_or_lam (variable n a) h = inl h
base_or_lam (bound i a) h = inl h
base_or_lam (symbol s a) h = inl h
base_or_lam (app f x) h = inl h.2
base_or_lam (lam a b) h = inr (a, b, refl)
base_or_lam (logic c x y) h = inl h.2
base_or_lam absent h = inl tt

lam_view : (c : Contents) → IsSound c → (t : ℕ) (v : View) → HasView c t v → (a : SimpleType) (b : Tree) → tree_at c t ≡ lam a b → (i : ℕ) × (j : ℕ) × (v ≡ Lam i j)
lam_view c s t (Var n) v a b e = let k = tree-node c s t (Var n) (type_number c t) v in absurd (cc)
lam_view c s t (Bound n) v a b e = let k = tree-node c s t (Bound n) (type_number c t) v in absurd (cc)
lam_view c s t (Sym n) v a b e = let k = tree-node c s t (Sym n) (type_number c t) v in absurd (cc)
lam_view c s t (App f x) v a b e = let k = tree-node c s t (App f x) (type_number c t) v in absurd (cc)
lam_view c s t (Lam i j) v a b e = (i, j, refl)
lam_view c s t (Logic o x y) v a b e = let k = tree-node c s t (Logic o x y) (type_number c t) v in absurd (cc)

-- a normal term of a type of functions is a lambda
pub view-of_function : (c : Contents) → IsSound c → (t : ℕ) (v : View) → HasView c t v → IsNormal (tree_at c t) → (a b : ℕ) → IsArrow c (type_number c t) a b → (i : ℕ) × (j : ℕ) × (v ≡ Lam i j)
view-of_function c s t v h n a b k =
    let p = view_sound c s t v h in
    let e : type_of (tree_at c t) ≡ arrow (type_at c a) (type_at c b) = type_of-tree c s t p.1 ∙ ty-arrow c s _ a b k.arrow_node in
    elim (base_or_lam (tree_at c t) n) [
      | inl q ↦ absurd (rw e at q)
      | inr q ↦ lam_view c s t v h q.0 q.1 q.2
    ]
