-- Each term of a bank is well typed, and reduction keeps types.
use Rattle.std.proofs.Common.{ℕ, zero, suc, ◌≡◌, ◌+◌, ◌<◌, ◌≤◌, Bool, true, false, nat_lt, Option, Some, None, length, refl, sym, ◌∙◌, ap, inl, inr, arith}
use Rattle.std.specs.Bool.{if◌then◌else◌}
use Rattle.leo_terms.specs.declared.node.Op.{Op}
use Rattle.leo_terms.specs.declared.node.Op.TheVariants as op
use Rattle.leo_terms.specs.declared.node.View.{View}
use Rattle.leo_terms.specs.declared.node.View.TheVariants.{Var, Bound, Sym, App, Lam, Logic}
use Rattle.leo_q0.specs.Terms.{SimpleType, arrow}
use Rattle.leo_terms.specs.Tree.{codomain, truth_type, Tree, variable, bound, symbol, app, lam, logic, absent, Connective, truth, falsity, negation, disjunction, conjunction, implication, equality, universal, existential, choice, type_of, IsBoundAt, lifted, opened, bound_opened}
use Rattle.leo_terms.specs.Typing.{IsPresent, IsPresentOf, TakesTrees, IsWellTyped}
use Rattle.leo_terms.specs.Reduction.{Reduces, nothing, andthen, in_app, in_lam, in_logic, beta, eta}
use Rattle.leo_terms.specs.Contents.{Contents, type_at, tree_at, connective, argument, argument_type, type_number, Takes, IsOfType, IsProperty, IsMissing, IsArgumentBelow, IsSound}
use Rattle.leo_terms.proofs.TreeLemmas.{type_of-lifted, IsBoundAt-lifted}
use Rattle.leo_terms.proofs.ReductionLemmas.{bound_opened-below, bound_opened-at, bound_opened-above, order, IsBoundAt-opened, IsBoundAt-reduces, IsBoundAt-gap}
use Rattle.leo_terms.proofs.Growth.{slice_get-some, type_number-node, tree-node, ty-base, ty-arrow}
use Rattle.leo_terms.proofs.Rebuild.{HasView, view_sound, tree-app, tree-lam, tree-logic, parts-app, parts-lam, parts-logic}
use Rattle.leo_terms.proofs.NormalLemmas.{type_of-tree}

-- lifting
pub IsPresent-lifted : (t : Tree) (from by : ℕ) → IsPresent t → IsPresent (lifted from by t)
IsPresent-lifted (variable n a) from by h = tt
IsPresent-lifted (bound i a) from by h = at (nat_lt i from)
  where
    at : (l : Bool) → IsPresent (if l then bound i a else bound (i + by) a)
    at true = tt
    at false = tt
IsPresent-lifted (symbol n a) from by h = tt
IsPresent-lifted (app f x) from by h = tt
IsPresent-lifted (lam a t) from by h = tt
IsPresent-lifted (logic c x y) from by h = tt
IsPresent-lifted absent from by h = h

-- trees with the presence and the types of others serve where those do
abbrev Serves : Tree → Tree → Type 0
Serves s t = (IsPresent s → IsPresent t) × (type_of t ≡ type_of s) × (s ≡ absent → t ≡ absent)

IsPresentOf-serves : (a : SimpleType) (s t : Tree) → Serves s t → IsPresentOf a s → IsPresentOf a t
IsPresentOf-serves a s t v h = (v.0 h.0, v.1 ∙ h.1)

TakesTrees-serves : (c : Connective) (x y x' y' : Tree) → Serves x x' → Serves y y' → TakesTrees c x y → TakesTrees c x' y'
TakesTrees-serves truth x y x' y' p q h = (p.2 h.0, q.2 h.1)
TakesTrees-serves falsity x y x' y' p q h = (p.2 h.0, q.2 h.1)
TakesTrees-serves negation x y x' y' p q h = (IsPresentOf-serves truth_type x x' p h.0, q.2 h.1)
TakesTrees-serves disjunction x y x' y' p q h = (IsPresentOf-serves truth_type x x' p h.0, IsPresentOf-serves truth_type y y' q h.1)
TakesTrees-serves conjunction x y x' y' p q h = (IsPresentOf-serves truth_type x x' p h.0, IsPresentOf-serves truth_type y y' q h.1)
TakesTrees-serves implication x y x' y' p q h = (IsPresentOf-serves truth_type x x' p h.0, IsPresentOf-serves truth_type y y' q h.1)
TakesTrees-serves (equality a) x y x' y' p q h = (IsPresentOf-serves a x x' p h.0, IsPresentOf-serves a y y' q h.1)
TakesTrees-serves (universal a) x y x' y' p q h = (IsPresentOf-serves (arrow a truth_type) x x' p h.0, q.2 h.1)
TakesTrees-serves (existential a) x y x' y' p q h = (IsPresentOf-serves (arrow a truth_type) x x' p h.0, q.2 h.1)
TakesTrees-serves (choice a) x y x' y' p q h = (IsPresentOf-serves (arrow a truth_type) x x' p h.0, q.2 h.1)

Serves-lifted : (t : Tree) (from by : ℕ) → Serves t (lifted from by t)
Serves-lifted t from by = (IsPresent-lifted t from by, type_of-lifted t from by, λ e. rw e refl)

pub IsWellTyped-lifted : (t : Tree) (from by : ℕ) → IsWellTyped t → IsWellTyped (lifted from by t)
IsWellTyped-lifted (variable n a) from by h = tt
IsWellTyped-lifted (bound i a) from by h = at (nat_lt i from)
  where
    at : (l : Bool) → IsWellTyped (if l then bound i a else bound (i + by) a)
    at true = tt
    at false = tt
IsWellTyped-lifted (symbol n a) from by h = tt
IsWellTyped-lifted (app f x) from by h = (IsWellTyped-lifted f from by h.0, IsWellTyped-lifted x from by h.1, IsPresent-lifted f from by h.2, IsPresent-lifted x from by h.3, rw (type_of-lifted f from by, type_of-lifted x from by) h.4)
IsWellTyped-lifted (lam a t) from by h = (IsWellTyped-lifted t (from + 1) by h.0, IsPresent-lifted t (from + 1) by h.1, IsBoundAt-lifted t 0 (from + 1) by a (omega arith) h.2)
IsWellTyped-lifted (logic c x y) from by h = (IsWellTyped-lifted x from by h.0, IsWellTyped-lifted y from by h.1, TakesTrees-serves c x y (lifted from by x) (lifted from by y) (Serves-lifted x from by) (Serves-lifted y from by) h.2)
IsWellTyped-lifted absent from by h = tt

-- putting a term of its type in for an index
module _ (s : Tree) (a : SimpleType) (typed : type_of s ≡ a) (present : IsPresent s) (well : IsWellTyped s) where
  opened_bound : (k i : ℕ) (b : SimpleType) → (i ≡ k → b ≡ a) → Serves (bound i b) (bound_opened k s i b) × IsWellTyped (bound_opened k s i b)
  opened_bound k i b h =
      elim (order i k) [
        | inl l ↦ rw (bound_opened-below k s i b l) (((λ _. tt), refl, (λ e. absurd (cc))), tt)
        | inr r ↦ elim r [
          | inl e ↦ rw (bound_opened-at k s i b e) (((λ _. IsPresent-lifted s 0 k present), type_of-lifted s 0 k ∙ typed ∙ sym (h e), (λ e. absurd (cc))), IsWellTyped-lifted s 0 k well)
          | inr g ↦ rw (bound_opened-above k s i b g) (((λ _. tt), refl, (λ e. absurd (cc))), tt)
        ]
      ]

  pub Serves-opened : (t : Tree) (k : ℕ) → IsBoundAt k a t → Serves t (opened k s t)
  Serves-opened (variable n b) k h = ((λ p. p), refl, (λ e. e))
  Serves-opened (bound i b) k h = (opened_bound k i b h).0
  Serves-opened (symbol n b) k h = ((λ p. p), refl, (λ e. e))
  Serves-opened (app f x) k h = ((λ _. tt), ap codomain (Serves-opened f k h.0).1, (λ e. absurd (cc)))
  Serves-opened (lam b t) k h = ((λ _. tt), ap (arrow b) (Serves-opened t (k + 1) h).1, (λ e. absurd (cc)))
  Serves-opened (logic c x y) k h = ((λ _. tt), refl, (λ e. absurd (cc)))
  Serves-opened absent k h = ((λ p. p), refl, (λ e. e))

  pub IsWellTyped-opened : (t : Tree) (k : ℕ) → IsBoundAt k a t → IsWellTyped t → IsWellTyped (opened k s t)
  IsWellTyped-opened (variable n b) k h w = tt
  IsWellTyped-opened (bound i b) k h w = (opened_bound k i b h).1
  IsWellTyped-opened (symbol n b) k h w = tt
  IsWellTyped-opened (app f x) k h w =
      let p = Serves-opened f k h.0 in
      let q = Serves-opened x k h.1 in
      (IsWellTyped-opened f k h.0 w.0, IsWellTyped-opened x k h.1 w.1, p.0 w.2, q.0 w.3, rw (p.1, q.1) w.4)
  IsWellTyped-opened (lam b t) k h w = (IsWellTyped-opened t (k + 1) h w.0, (Serves-opened t (k + 1) h).0 w.1, IsBoundAt-opened t s (k + 1) 0 b (omega arith) w.2)
  IsWellTyped-opened (logic c x y) k h w = (IsWellTyped-opened x k h.0 w.0, IsWellTyped-opened y k h.1 w.1, TakesTrees-serves c x y (opened k s x) (opened k s y) (Serves-opened x k h.0) (Serves-opened y k h.1) w.2)
  IsWellTyped-opened absent k h w = tt

present_of : (t : Tree) (a b : SimpleType) → type_of t ≡ arrow a b → IsPresent t
present_of (variable n c) a b e = tt
present_of (bound i c) a b e = tt
present_of (symbol n c) a b e = tt
present_of (app f x) a b e = tt
present_of (lam c t) a b e = tt
present_of (logic c x y) a b e = tt
present_of absent a b e = absurd (cc)

eta_typed : (a b : SimpleType) (t : Tree) → type_of t ≡ arrow a b → IsWellTyped t → IsWellTyped (lam a (app (lifted 0 1 t) (bound 0 a))) × Serves t (lam a (app (lifted 0 1 t) (bound 0 a)))
eta_typed a b t p w =
    let e : type_of (lifted 0 1 t) ≡ arrow a b = type_of-lifted t 0 1 ∙ p in
    let f : arrow a (codomain (type_of (lifted 0 1 t))) ≡ arrow a b = ap (λ c. arrow a (codomain c)) e in (
      ((IsWellTyped-lifted t 0 1 w, tt, IsPresent-lifted t 0 1 (present_of t a b p), tt, e ∙ sym f), tt, (IsBoundAt-gap t 0 0 1 a (omega arith) (omega arith), (λ _. refl))),
      ((λ _. tt), f ∙ sym p, (λ q. absurd (let g : type_of t ≡ truth_type = ap type_of q in cc))),
    )

-- reduction keeps types
pub reduces_typed : (s t : Tree) → Reduces s t → IsWellTyped s → IsWellTyped t × Serves s t
reduces_typed _ _ (nothing t) w = (w, ((λ p. p), refl, (λ e. e)))
reduces_typed _ _ (andthen r s t p q) w =
    let u = reduces_typed r s p w in
    let v = reduces_typed s t q u.0 in
    (v.0, ((λ h. v.1.0 (u.1.0 h)), v.1.1 ∙ u.1.1, (λ e. v.1.2 (u.1.2 e))))
reduces_typed _ _ (in_app f g x y p q) w =
    let u = reduces_typed f g p w.0 in
    let v = reduces_typed x y q w.1 in
    ((u.0, v.0, u.1.0 w.2, v.1.0 w.3, rw (u.1.1, v.1.1) w.4), ((λ _. tt), ap codomain u.1.1, (λ e. absurd (cc))))
reduces_typed _ _ (in_lam a s t p) w =
    let u = reduces_typed s t p w.0 in
    ((u.0, u.1.0 w.1, IsBoundAt-reduces s t p 0 a w.2), ((λ _. tt), ap (arrow a) u.1.1, (λ e. absurd (cc))))
reduces_typed _ _ (in_logic c s t x y p q) w =
    let u = reduces_typed s t p w.0 in
    let v = reduces_typed x y q w.1 in
    ((u.0, v.0, TakesTrees-serves c s x t y u.1 v.1 w.2), ((λ _. tt), refl, (λ e. absurd (cc))))
reduces_typed _ _ (beta a t x p q) w =
    let o = Serves-opened x a q w.3 w.1 t 0 p in
    (IsWellTyped-opened x a q w.3 w.1 t 0 p w.0.0, ((λ _. o.0 w.0.1), o.1, (λ e. absurd (cc))))
reduces_typed _ _ (eta a b t p) w = eta_typed a b t p w

-- the trees of a bank are well typed
view_present : (c : Contents) → IsSound c → (t : ℕ) (v : View) → HasView c t v → IsPresent (tree_at c t)
view_present c s t (Var n) v = rw (tree-node c s t (Var n) (type_number c t) v) tt
view_present c s t (Bound n) v = rw (tree-node c s t (Bound n) (type_number c t) v) tt
view_present c s t (Sym n) v = rw (tree-node c s t (Sym n) (type_number c t) v) tt
view_present c s t (App f x) v = rw (tree-app c s t f x v) tt
view_present c s t (Lam a b) v = rw (tree-lam c s t a b v) tt
view_present c s t (Logic o x y) v = rw (tree-logic c s t o x y v) tt

pub tree_at-present : (c : Contents) → IsSound c → (t : ℕ) → t < length c.terms → IsPresent (tree_at c t)
tree_at-present c s t l =
    let w = slice_get-some c.terms t l in
    view_present c s t w.0.view (rw (type_number-node c t w.0 w.1) w.1)

argument_of : (c : Contents) → IsSound c → (n : ℕ) → n ≤ length c.terms → (x : Option ℕ) → IsArgumentBelow n x → (a : ℕ) → argument_type c x ≡ Some a → IsPresentOf (type_at c a) (argument (tree_at c) x)
argument_of c s n l None h a e = absurd (cc)
argument_of c s n l (Some x) h a e =
    let q : type_number c x ≡ a = cc in
    (tree_at-present c s x (omega arith), type_of-tree c s x (omega arith) ∙ ap (type_at c) q)

argument_missing : (c : Contents) (x : Option ℕ) → IsMissing (argument_type c x) → argument (tree_at c) x ≡ absent
argument_missing c None h = refl
argument_missing c (Some x) h = absurd (let e = h.argument_is in cc)

property_of : (c : Contents) → IsSound c → (n : ℕ) → n ≤ length c.terms → (x : Option ℕ) → IsArgumentBelow n x → (a : ℕ) → IsProperty c (argument_type c x) a → IsPresentOf (arrow (type_at c a) truth_type) (argument (tree_at c) x)
property_of c s n l x h a p =
    let q = argument_of c s n l x h p.number p.argument_is in
    (q.0, q.1 ∙ ty-arrow c s p.number a 0 p.property.arrow_node ∙ ap (arrow (type_at c a)) (ty-base c 0 0 s.truth_first))

truth_of : (c : Contents) → IsSound c → (n : ℕ) → n ≤ length c.terms → (x : Option ℕ) → IsArgumentBelow n x → IsOfType (argument_type c x) 0 → IsPresentOf truth_type (argument (tree_at c) x)
truth_of c s n l x h p =
    let q = argument_of c s n l x h 0 p.argument_is in
    (q.0, q.1 ∙ ty-base c 0 0 s.truth_first)

takes_trees : (c : Contents) → IsSound c → (n : ℕ) → n ≤ length c.terms → (o : Op) (x y : Option ℕ) (i : ℕ) → IsArgumentBelow n x → IsArgumentBelow n y → Takes c o (argument_type c x) (argument_type c y) i → TakesTrees (connective c o) (argument (tree_at c) x) (argument (tree_at c) y)
takes_trees c s n l op.True x y i p q h = (argument_missing c x h.0, argument_missing c y h.1)
takes_trees c s n l op.False x y i p q h = (argument_missing c x h.0, argument_missing c y h.1)
takes_trees c s n l op.Not x y i p q h = (truth_of c s n l x p h.0, argument_missing c y h.1)
takes_trees c s n l op.Or x y i p q h = (truth_of c s n l x p h.0, truth_of c s n l y q h.1)
takes_trees c s n l op.And x y i p q h = (truth_of c s n l x p h.0, truth_of c s n l y q h.1)
takes_trees c s n l op.Imp x y i p q h = (truth_of c s n l x p h.0, truth_of c s n l y q h.1)
takes_trees c s n l (op.Eq a) x y i p q h = (argument_of c s n l x p a h.0.argument_is, argument_of c s n l y q a h.1.argument_is)
takes_trees c s n l (op.All a) x y i p q h = (property_of c s n l x p a h.0, argument_missing c y h.1)
takes_trees c s n l (op.Some a) x y i p q h = (property_of c s n l x p a h.0, argument_missing c y h.1)
takes_trees c s n l (op.Eps a) x y i p q h = (property_of c s n l x p a h.0, argument_missing c y h.1)

argument_typed : (c : Contents) (t : ℕ) → ((u : ℕ) → u < t → IsWellTyped (tree_at c u)) → (x : Option ℕ) → IsArgumentBelow t x → IsWellTyped (argument (tree_at c) x)
argument_typed c t ih None h = tt
argument_typed c t ih (Some x) h = ih x h

view_typed : (c : Contents) → IsSound c → (t : ℕ) (v : View) → ((u : ℕ) → u < t → IsWellTyped (tree_at c u)) → HasView c t v → IsWellTyped (tree_at c t)
view_typed c s t (Var n) ih v = rw (tree-node c s t (Var n) (type_number c t) v) tt
view_typed c s t (Bound n) ih v = rw (tree-node c s t (Bound n) (type_number c t) v) tt
view_typed c s t (Sym n) ih v = rw (tree-node c s t (Sym n) (type_number c t) v) tt
view_typed c s t (App f x) ih v =
    let p = view_sound c s t (App f x) v in
    let u = parts-app c s t f x v in
    let e : type_of (tree_at c f) ≡ arrow (type_at c (type_number c x)) (type_at c (type_number c t)) = type_of-tree c s f (omega arith) ∙ ty-arrow c s _ _ _ p.0.typed.arrow_node in
    let g = type_of-tree c s x (omega arith) in
    let h : arrow (type_of (tree_at c x)) (codomain (type_of (tree_at c f))) ≡ arrow (type_at c (type_number c x)) (type_at c (type_number c t)) = rw (g, e) refl in
    rw (tree-app c s t f x v) (ih f u.0, ih x u.1, tree_at-present c s f (omega arith), tree_at-present c s x (omega arith), e ∙ sym h)
view_typed c s t (Lam a b) ih v =
    let p = view_sound c s t (Lam a b) v in
    let u = parts-lam c s t a b v in
    rw (tree-lam c s t a b v) (ih b u.0, tree_at-present c s b (omega arith), p.0.bound_typed)
view_typed c s t (Logic o x y) ih v =
    let p = view_sound c s t (Logic o x y) v in
    let u = parts-logic c s t o x y v in
    rw (tree-logic c s t o x y v) (argument_typed c t ih x u.0, argument_typed c t ih y u.1, takes_trees c s t (omega arith) o x y _ u.0 u.1 p.0.typed)

tree_typed_below : (c : Contents) → IsSound c → (n t : ℕ) → t < n → t < length c.terms → IsWellTyped (tree_at c t)
tree_typed_below c s zero t p q = absurd (omega arith)
tree_typed_below c s (suc n) t p q =
    let w = slice_get-some c.terms t q in
    view_typed c s t w.0.view (λ u h. tree_typed_below c s n u (omega arith) (omega arith)) (rw (type_number-node c t w.0 w.1) w.1)

pub tree_at-typed : (c : Contents) → IsSound c → (t : ℕ) → t < length c.terms → IsWellTyped (tree_at c t)
tree_at-typed c s t l = tree_typed_below c s (suc t) t (omega arith) l
