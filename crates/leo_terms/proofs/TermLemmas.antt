-- Terms that read alike have one number.
use Rattle.std.proofs.Common.{ℕ, zero, suc, ◌≡◌, ◌<◌, length, Option, Some, None, refl, sym, ◌∙◌, ap, subst, arith}
use Rattle.leo_q0.specs.Terms.{SimpleType}
use Rattle.leo_terms.specs.declared.node.Op.{Op}
use Rattle.leo_terms.specs.declared.node.Op.TheVariants as op
use Rattle.leo_terms.specs.declared.node.View.{View}
use Rattle.leo_terms.specs.declared.node.View.TheVariants.{Var, Bound, Sym, App, Lam, Logic}
use Rattle.leo_terms.specs.Tree.{Tree, variable, bound, symbol, app, lam, logic, absent, Connective, truth, falsity, negation, disjunction, conjunction, implication, equality, universal, existential, choice, type_of}
use Rattle.leo_terms.specs.Typing.{IsPresent}
use Rattle.leo_terms.specs.Contents.{Contents, node, type_at, tree_at, view_tree, connective, argument, type_number, HasTypeBelow, IsArgumentBelow, IsSound}
use Rattle.leo_terms.proofs.Growth.{slice_get-some, arrow-below, tree-node, type_number-node}
use Rattle.leo_terms.proofs.Rebuild.{HasView, view_sound}
use Rattle.leo_terms.proofs.TypeLemmas.{type_at-injective}
use Rattle.leo_terms.proofs.NormalLemmas.{type_of-tree}
use Rattle.leo_terms.proofs.TypingLemmas.{tree_at-present}

-- the program's constant is the one that reads so
abbrev Names : Contents → Connective → Op → Type 0
Names c truth o = o ≡ op.True
Names c falsity o = o ≡ op.False
Names c negation o = o ≡ op.Not
Names c disjunction o = o ≡ op.Or
Names c conjunction o = o ≡ op.And
Names c implication o = o ≡ op.Imp
Names c (equality a) o = (i : ℕ) × (o ≡ op.Eq i) × (type_at c i ≡ a)
Names c (universal a) o = (i : ℕ) × (o ≡ op.All i) × (type_at c i ≡ a)
Names c (existential a) o = (i : ℕ) × (o ≡ op.Some i) × (type_at c i ≡ a)
Names c (choice a) o = (i : ℕ) × (o ≡ op.Eps i) × (type_at c i ≡ a)

names : (c : Contents) (o : Op) → Names c (connective c o) o
names c op.True = refl
names c op.False = refl
names c op.Not = refl
names c op.Or = refl
names c op.And = refl
names c op.Imp = refl
names c (op.Eq a) = (a, refl, refl)
names c (op.All a) = (a, refl, refl)
names c (op.Some a) = (a, refl, refl)
names c (op.Eps a) = (a, refl, refl)

module _ (c : Contents) (s : IsSound c) where
  same_type_number : (a i : ℕ) (p : Op) (q : Op) → HasTypeBelow (length c.types) p → p ≡ q → (HasTypeBelow (length c.types) q → i < length c.types) → a < length c.types → type_at c i ≡ type_at c a → i ≡ a
  same_type_number a i p q below e within h r = type_at-injective c s i a (within (subst (HasTypeBelow (length c.types)) e below)) h r

  pub connective-injective : (o p : Op) → HasTypeBelow (length c.types) o → HasTypeBelow (length c.types) p → connective c o ≡ connective c p → o ≡ p
  connective-injective op.True p u v e = sym (subst (λ (q : Connective). Names c q p) (sym e) (names c p))
  connective-injective op.False p u v e = sym (subst (λ (q : Connective). Names c q p) (sym e) (names c p))
  connective-injective op.Not p u v e = sym (subst (λ (q : Connective). Names c q p) (sym e) (names c p))
  connective-injective op.Or p u v e = sym (subst (λ (q : Connective). Names c q p) (sym e) (names c p))
  connective-injective op.And p u v e = sym (subst (λ (q : Connective). Names c q p) (sym e) (names c p))
  connective-injective op.Imp p u v e = sym (subst (λ (q : Connective). Names c q p) (sym e) (names c p))
  connective-injective (op.Eq a) p u v e =
      let n = subst (λ (q : Connective). Names c q p) (sym e) (names c p) in
      sym (n.1 ∙ ap op.Eq (same_type_number a n.0 p (op.Eq n.0) v n.1 (λ h. h) u n.2))
  connective-injective (op.All a) p u v e =
      let n = subst (λ (q : Connective). Names c q p) (sym e) (names c p) in
      sym (n.1 ∙ ap op.All (same_type_number a n.0 p (op.All n.0) v n.1 (λ h. h) u n.2))
  connective-injective (op.Some a) p u v e =
      let n = subst (λ (q : Connective). Names c q p) (sym e) (names c p) in
      sym (n.1 ∙ ap op.Some (same_type_number a n.0 p (op.Some n.0) v n.1 (λ h. h) u n.2))
  connective-injective (op.Eps a) p u v e =
      let n = subst (λ (q : Connective). Names c q p) (sym e) (names c p) in
      sym (n.1 ∙ ap op.Eps (same_type_number a n.0 p (op.Eps n.0) v n.1 (λ h. h) u n.2))

-- the view is one that reads so
abbrev Shows : Contents → Tree → View → Type 0
Shows c (variable n a) v = v ≡ Var n
Shows c (bound i a) v = v ≡ Bound i
Shows c (symbol n a) v = v ≡ Sym n
Shows c (app F X) v = (f : ℕ) × (x : ℕ) × (v ≡ App f x) × (tree_at c f ≡ F) × (tree_at c x ≡ X)
Shows c (lam a T) v = (k : ℕ) × (t : ℕ) × (v ≡ Lam k t) × (type_at c k ≡ a) × (tree_at c t ≡ T)
Shows c (logic q X Y) v = (o : Op) × (x : Option ℕ) × (y : Option ℕ) × (v ≡ Logic o x y) × (connective c o ≡ q) × (argument (tree_at c) x ≡ X) × (argument (tree_at c) y ≡ Y)
Shows c absent v = ⊥

shows : (c : Contents) (v : View) (a : SimpleType) → Shows c (view_tree c (tree_at c) v a) v
shows c (Var n) a = refl
shows c (Bound i) a = refl
shows c (Sym n) a = refl
shows c (App f x) a = (f, x, refl, refl, refl)
shows c (Lam k t) a = (k, t, refl, refl, refl)
shows c (Logic o x y) a = (o, x, y, refl, refl, refl, refl)

absent_is_missing : (c : Contents) → IsSound c → (x : ℕ) → x < length c.terms → tree_at c x ≡ absent → ⊥
absent_is_missing c s x h e = subst IsPresent e (tree_at-present c s x h)

module _ (c : Contents) (s : IsSound c) (n : ℕ) (below : n < length c.terms) (ih : (t u : ℕ) → t < n → t < length c.terms → u < length c.terms → tree_at c t ≡ tree_at c u → t ≡ u) (m : ℕ) (within : m < length c.terms) where
  same_argument : (x y : Option ℕ) → IsArgumentBelow n x → IsArgumentBelow m y → argument (tree_at c) y ≡ argument (tree_at c) x → y ≡ x
  same_argument None None p q e = refl
  same_argument None (Some y) p q e = absurd (absent_is_missing c s y (omega arith) e)
  same_argument (Some x) None p q e = absurd (absent_is_missing c s x (omega arith) (sym e))
  same_argument (Some x) (Some y) p q e = ap Some (sym (ih x y p (omega arith) (omega arith) (sym e)))

  same_view : (v w : View) → HasView c n v → HasView c m w → Shows c (view_tree c (tree_at c) v (type_at c (type_number c n))) w → w ≡ v
  same_view (Var k) w h j e = e
  same_view (Bound k) w h j e = e
  same_view (Sym k) w h j e = e
  same_view (App f x) w h j e =
      let p = view_sound c s n (App f x) h in
      let q = view_sound c s m (App e.0 e.1) (subst (HasView c m) e.2 j) in
      let fb = p.0.function_below in
      let xb = p.0.argument_below in
      let gb = q.0.function_below in
      let zb = q.0.argument_below in
      let a : f ≡ e.0 = ih f e.0 (omega arith) (omega arith) (omega arith) (sym e.3) in
      let b : x ≡ e.1 = ih x e.1 (omega arith) (omega arith) (omega arith) (sym e.4) in
      rw (a, b) e.2
  same_view (Lam k t) w h j e =
      let p = view_sound c s n (Lam k t) h in
      let q = view_sound c s m (Lam e.0 e.1) (subst (HasView c m) e.2 j) in
      let u = arrow-below c s (type_number c n) k (type_number c t) p.0.typed in
      let v = arrow-below c s (type_number c m) e.0 (type_number c e.1) q.0.typed in
      let tb = p.0.body_below in
      let zb = q.0.body_below in
      let a : k ≡ e.0 = type_at-injective c s k e.0 (omega arith) (omega arith) (sym e.3) in
      let b : t ≡ e.1 = ih t e.1 (omega arith) (omega arith) (omega arith) (sym e.4) in
      rw (a, b) e.2
  same_view (Logic o x y) w h j e =
      let p = view_sound c s n (Logic o x y) h in
      let q = view_sound c s m (Logic e.0 e.1 e.2) (subst (HasView c m) e.3 j) in
      let a : e.0 ≡ o = connective-injective c s e.0 o q.0.type_below p.0.type_below e.4 in
      let b : e.1 ≡ x = same_argument x e.1 p.0.first_below q.0.first_below e.5 in
      let d : e.2 ≡ y = same_argument y e.2 p.0.second_below q.0.second_below e.6 in
      rw (← a, ← b, ← d) e.3

  same_number : (v w : View) → HasView c n v → HasView c m w → tree_at c n ≡ tree_at c m → n ≡ m
  same_number v w h j e =
      let a : tree_at c n ≡ view_tree c (tree_at c) v (type_at c (type_number c n)) = tree-node c s n v (type_number c n) h in
      let b : tree_at c m ≡ view_tree c (tree_at c) w (type_at c (type_number c m)) = tree-node c s m w (type_number c m) j in
      let x : view_tree c (tree_at c) v (type_at c (type_number c n)) ≡ view_tree c (tree_at c) w (type_at c (type_number c m)) = sym a ∙ e ∙ b in
      let y = same_view v w h j (subst (λ (r : Tree). Shows c r w) (sym x) (shows c w (type_at c (type_number c m)))) in
      let p = view_sound c s n v h in
      let q = view_sound c s m w j in
      let i : type_number c n ≡ type_number c m = type_at-injective c s (type_number c n) (type_number c m) p.2 q.2 (sym (type_of-tree c s n below) ∙ ap type_of e ∙ type_of-tree c s m within) in
      s.terms_shared n m (node v (type_number c n)) h (rw (← y, i) j)

tree_at-injective_below : (c : Contents) → IsSound c → (n t u : ℕ) → t < n → t < length c.terms → u < length c.terms → tree_at c t ≡ tree_at c u → t ≡ u
tree_at-injective_below c s zero t u l p q e = absurd (omega arith)
tree_at-injective_below c s (suc n) t u l p q e =
    let w = slice_get-some c.terms t p in
    let v = slice_get-some c.terms u q in
    same_number c s t p (λ a b h k m g. tree_at-injective_below c s n a b (omega arith) k m g) u q w.0.view v.0.view
    (rw (type_number-node c t w.0 w.1) w.1) (rw (type_number-node c u v.0 v.1) v.1) e

pub tree_at-injective : (c : Contents) → IsSound c → (t u : ℕ) → t < length c.terms → u < length c.terms → tree_at c t ≡ tree_at c u → t ≡ u
tree_at-injective c s t u p q e = tree_at-injective_below c s (suc t) t u (omega arith) p q e
