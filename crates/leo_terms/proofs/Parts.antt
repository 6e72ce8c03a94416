-- Marks of terms, and terms that are made again in another bank.
use Rattle.std.proofs.Common.{ℕ, zero, suc, ◌≡◌, ◌+◌, ◌<◌, ◌≤◌, ◌⊎◌, Bool, true, false, List, [], ◌∷◌, ◌++◌, length, map, replicate, set, take, get_or, slice_get, Option, Some, None, Result, Ok, Err, IfOk, refl, sym, ◌∙◌, ap, subst, inl, inr, arith}
use Rattle.std.specs.Option.{option_map}
use Rattle.std.proofs.lemmas.Option.{slice_get_within, slice_get-map}
use Rattle.leo_q0.specs.Terms.{SimpleType}
use Rattle.leo_terms.specs.declared.node.TyView.TheVariants.{Arrow}
use Rattle.leo_terms.specs.declared.node.Op.{Op}
use Rattle.leo_terms.specs.declared.node.Op.TheVariants as op
use Rattle.leo_terms.specs.declared.node.View.{View}
use Rattle.leo_terms.specs.declared.node.View.TheVariants.{Var, Bound, Sym, App, Lam, Logic}
use Rattle.leo_terms.specs.declared.node.TermNode.{TermNode}
use Rattle.leo_terms.specs.Tree.{Tree, app, lam, logic, Connective, IsBoundAt}
use Rattle.leo_terms.specs.Contents.{Contents, IsBank, IsSound, IsSoundNode, IsSoundView, IsArrow, IsProperty, IsTerm, IsArgumentBelow, HasTypeBelow, Takes, AddsShared, AreTerms, Grows, node, type_at, type_within, tree_at, view_tree, type_number, argument, argument_type, connective}
use Rattle.leo_terms.specs.Parts.{IsSubterm, whole, in_function, in_argument, in_body, in_first, in_second, IsSubtermOfOne, HasOnly, IsPart}
use Rattle.leo_terms.specs.Marks.{IsMarked, first_part, second_part, IsPartOf, Marks, ArePartsMarked, AreNeeded, moved_view, AreMovedParts, IsMoved}
use Rattle.leo_terms.proofs.Growth.{slice_get-some, arrow-below, connective-same, type_number-node, tree-keeps}
use Rattle.leo_terms.proofs.Rebuild.{HasView, view_sound, tree-var, tree-bound, tree-sym, tree-app, tree-lam, tree-logic, IsSoundNode-leaf, IsTerm-keeps}
use Rattle.leo_terms.proofs.PublicWords.{is_bank}

-- marks
slice_get-set_same : (m : List Bool) (t : ℕ) → t < length m → slice_get (set m t true) t ≡ Some true
slice_get-set_same [] t h = absurd (omega arith)
slice_get-set_same (b ∷ m) zero h = refl
slice_get-set_same (b ∷ m) (suc t) h = slice_get-set_same m t (omega arith)

slice_get-set_kept : (m : List Bool) (t i : ℕ) → slice_get m i ≡ Some true → slice_get (set m t true) i ≡ Some true
slice_get-set_kept [] t i h = absurd (cc)
slice_get-set_kept (b ∷ m) zero zero h = refl
slice_get-set_kept (b ∷ m) zero (suc i) h = h
slice_get-set_kept (b ∷ m) (suc t) zero h = h
slice_get-set_kept (b ∷ m) (suc t) (suc i) h = slice_get-set_kept m t i h

slice_get-set_only : (m : List Bool) (t i : ℕ) → slice_get (set m t true) i ≡ Some true → (slice_get m i ≡ Some true) ⊎ (t ≡ i)
slice_get-set_only [] t i h = absurd (cc)
slice_get-set_only (b ∷ m) zero zero h = inr refl
slice_get-set_only (b ∷ m) zero (suc i) h = inl h
slice_get-set_only (b ∷ m) (suc t) zero h = inl h
slice_get-set_only (b ∷ m) (suc t) (suc i) h = elim (slice_get-set_only m t i h) [ inl k ↦ inl k | inr e ↦ inr (ap suc e) ]

length-set_mark : (m : List Bool) (t : ℕ) → length (set m t true) ≡ length m
length-set_mark [] t = refl
length-set_mark (b ∷ m) zero = refl
length-set_mark (b ∷ m) (suc t) = ap suc (length-set_mark m t)

some_number : (i j : ℕ) → Some i ≡ Some j → i ≡ j
some_number i j e = cc

pub marks_one : (m : List Bool) (t : ℕ) → t < length m → Marks m (set m t true) (λ i. Some t ≡ Some i)
marks_one m t l = record {
  same_length = length-set_mark m t;
  kept = λ i h. record { mark = slice_get-set_kept m t i h.mark };
  gained = λ i e. record { mark = subst (λ (j : ℕ). slice_get (set m t true) j ≡ Some true) (some_number t i e) (slice_get-set_same m t l) };
  only = λ i h. elim (slice_get-set_only m t i h.mark) [ inl k ↦ inl (record { mark = k }) | inr e ↦ inr (ap Some e) ];
}

pub marks_nothing : (m : List Bool) (P : ℕ → Type 0) → ((i : ℕ) → P i → ⊥) → Marks m m P
marks_nothing m P none = record {
  same_length = refl;
  kept = λ i h. h;
  gained = λ i p. absurd (none i p);
  only = λ i h. inl h;
}

pub marks_both : (a b c : List Bool) (P Q R : ℕ → Type 0) → Marks a b P → Marks b c Q → ((i : ℕ) → R i → P i ⊎ Q i) → ((i : ℕ) → P i ⊎ Q i → R i) → Marks a c R
marks_both a b c P Q R x y split join = record {
  same_length = y.same_length ∙ x.same_length;
  kept = λ i h. y.kept i (x.kept i h);
  gained = λ i r. elim (split i r) [ inl p ↦ y.kept i (x.gained i p) | inr q ↦ y.gained i q ];
  only = λ i h. elim (y.only i h) [ inl k ↦ elim (x.only i k) [ inl l ↦ inl l | inr p ↦ inr (join i (inl p)) ] | inr q ↦ inr (join i (inr q)) ];
}

before_or_at : (p t : ℕ) → t < p + 1 → (t < p) ⊎ (t ≡ p)
before_or_at zero zero l = inr refl
before_or_at zero (suc t) l = absurd (omega arith)
before_or_at (suc p) zero l = inl (omega arith)
before_or_at (suc p) (suc t) l = elim (before_or_at p t (omega arith)) [ inl k ↦ inl (omega arith) | inr e ↦ inr (ap suc e) ]

-- the terms of a list up to a place
pub marks_next : (a b c : List Bool) (ts : List ℕ) (n x : ℕ) → slice_get ts n ≡ Some x → Marks a b (λ t. (k : ℕ) × (k < n) × (slice_get ts k ≡ Some t)) → Marks b c (λ i. Some x ≡ Some i) → Marks a c (λ t. (k : ℕ) × (k < n + 1) × (slice_get ts k ≡ Some t))
marks_next a b c ts n x e p q = marks_both a b c _ _ _ p q (λ i r. split i r.0 r.1 r.2 (before_or_at n r.0 r.1)) join
  where
    split : (i k : ℕ) → k < n + 1 → slice_get ts k ≡ Some i → (k < n) ⊎ (k ≡ n) → ((k : ℕ) × (k < n) × (slice_get ts k ≡ Some i)) ⊎ (Some x ≡ Some i)
    split i k l h (inl m) = inl (k, m, h)
    split i k l h (inr m) = inr (sym e ∙ (rw m at h))

    join : (i : ℕ) → ((k : ℕ) × (k < n) × (slice_get ts k ≡ Some i)) ⊎ (Some x ≡ Some i) → (k : ℕ) × (k < n + 1) × (slice_get ts k ≡ Some i)
    join i (inl w) = (w.0, (let l = w.1 in omega arith), w.2)
    join i (inr f) = (n, omega arith, e ∙ f)

pub marks_all : (a b : List Bool) (ts : List ℕ) (n : ℕ) → length ts ≤ n → Marks a b (λ t. (k : ℕ) × (k < n) × (slice_get ts k ≡ Some t)) → Marks a b (λ t. (k : ℕ) × (slice_get ts k ≡ Some t))
marks_all a b ts n l p = record {
  same_length = p.same_length;
  kept = p.kept;
  gained = λ i w. p.gained i (w.0, (let m = slice_get_within ts w.0 i w.1 in omega arith), w.1);
  only = λ i h. elim (p.only i h) [ inl k ↦ inl k | inr w ↦ inr (w.0, w.2) ];
}

-- the images of a list's items up to a place, with that of the item there
pub images-next : (f : ℕ → ℕ) (xs ys : List ℕ) (i x : ℕ) → slice_get xs i ≡ Some x → ys ≡ take i (map f xs) → ys ++ f x ∷ [] ≡ take (i + 1) (map f xs)
images-next f xs ys i x h e = rw (e, one i) (step xs i h)
  where
    one : (i : ℕ) → i + 1 ≡ suc i
    one i = omega arith

    step : (xs : List ℕ) (i : ℕ) → slice_get xs i ≡ Some x → take i (map f xs) ++ f x ∷ [] ≡ take (suc i) (map f xs)
    step [] i h = (let f : ⊥ = cc in absurd f)
    step (y ∷ xs) zero h = rw (some_number y x h) refl
    step (y ∷ xs) (suc i) h = ap (λ zs. f y ∷ zs) (step xs i h)

-- nothing is marked at first
pub marks_blank : (n i : ℕ) → IsMarked (replicate n false) i → ⊥
marks_blank n i h = at n i h.mark
  where
    at : (n i : ℕ) → slice_get (replicate n false) i ≡ Some true → ⊥
    at zero i h = cc
    at (suc n) zero h = cc
    at (suc n) (suc i) h = at n i h

-- subterms
pub IsSubterm-trans : (r s t : Tree) → IsSubterm s t → IsSubterm r s → IsSubterm r t
IsSubterm-trans r _ _ (whole t) h = h
IsSubterm-trans r _ _ (in_function s f x k) h = in_function r f x (IsSubterm-trans r s f k h)
IsSubterm-trans r _ _ (in_argument s f x k) h = in_argument r f x (IsSubterm-trans r s x k h)
IsSubterm-trans r _ _ (in_body s a t k) h = in_body r a t (IsSubterm-trans r s t k h)
IsSubterm-trans r _ _ (in_first s c x y k) h = in_first r c x y (IsSubterm-trans r s x k h)
IsSubterm-trans r _ _ (in_second s c x y k) h = in_second r c x y (IsSubterm-trans r s y k h)

argument-some : (read : ℕ → Tree) (x : Option ℕ) (i : ℕ) → x ≡ Some i → argument read x ≡ read i
argument-some read x i e = rw e refl

below-some : (n : ℕ) (x : Option ℕ) (i : ℕ) → IsArgumentBelow n x → x ≡ Some i → i < n
below-some n x i h e = rw e at h

-- a part of a term has a smaller number and is a subterm
pub part-subterm : (c : Contents) → IsSound c → (t : ℕ) (v : View) → HasView c t v → (i : ℕ) → IsPartOf i v → (i < t) × IsSubterm (tree_at c i) (tree_at c t)
part-subterm c s t (Var n) h i p = elim p [ inl e ↦ (let f : ⊥ = cc in absurd f) | inr e ↦ (let f : ⊥ = cc in absurd f) ]
part-subterm c s t (Bound n) h i p = elim p [ inl e ↦ (let f : ⊥ = cc in absurd f) | inr e ↦ (let f : ⊥ = cc in absurd f) ]
part-subterm c s t (Sym n) h i p = elim p [ inl e ↦ (let f : ⊥ = cc in absurd f) | inr e ↦ (let f : ⊥ = cc in absurd f) ]
part-subterm c s t (App f x) h i p =
    let w = (view_sound c s t (App f x) h).0 in
    let r = tree-app c s t f x h in
    elim p [
      | inl e ↦ (let j = some_number f i e in (rw (← j) w.function_below, rw (r, ← j) (in_function _ _ _ (whole _))))
      | inr e ↦ (let j = some_number x i e in (rw (← j) w.argument_below, rw (r, ← j) (in_argument _ _ _ (whole _))))
    ]
part-subterm c s t (Lam a x) h i p =
    let w = (view_sound c s t (Lam a x) h).0 in
    let r = tree-lam c s t a x h in
    elim p [
      | inl e ↦ (let j = some_number x i e in (rw (← j) w.body_below, rw (r, ← j) (in_body _ _ _ (whole _))))
      | inr e ↦ (let f : ⊥ = cc in absurd f)
    ]
part-subterm c s t (Logic o x y) h i p =
    let w = (view_sound c s t (Logic o x y) h).0 in
    let r = tree-logic c s t o x y h in
    elim p [
      | inl e ↦ (below-some t x i w.first_below e, rw (r, argument-some (tree_at c) x i e) (in_first _ _ _ _ (whole _)))
      | inr e ↦ (below-some t y i w.second_below e, rw (r, argument-some (tree_at c) y i e) (in_second _ _ _ _ (whole _)))
    ]

later : (p t : ℕ) → p ≤ t → (t ≡ p) ⊎ (p + 1 ≤ t)
later zero zero l = inl refl
later zero (suc t) l = inr (omega arith)
later (suc p) zero l = absurd (omega arith)
later (suc p) (suc t) l = elim (later p t (omega arith)) [ inl e ↦ inl (ap suc e) | inr k ↦ inr (omega arith) ]

same_node : (a b : TermNode) → Some a ≡ Some b → a ≡ b
same_node a b e = cc

same_view : (v w : View) (i j : ℕ) → Some (node v i) ≡ Some (node w j) → v ≡ w
same_view v w i j e = ap (λ (n : TermNode). n.view) (same_node (node v i) (node w j) e)

-- what is needed
module _ (c : Contents) (s : IsSound c) (ts : List ℕ) where
  pub needed_first : (m m' : List Bool) → ((i : ℕ) → IsMarked m i → ⊥) → length m ≡ length c.terms → Marks m m' (λ t. (k : ℕ) × (slice_get ts k ≡ Some t)) → AreNeeded c ts m' (length c.terms)
  needed_first m m' none l x = record {
    of_bank = x.same_length ∙ l;
    given = λ k t e. x.gained t (k, e);
    parts = λ t v from h e i p. (let w = slice_get_within m' t true h.mark in let n = x.same_length in let f : ⊥ = omega arith in absurd f);
    only = λ t h. elim (x.only t h) [
      | inl k ↦ absurd (none t k)
      | inr k ↦ record { place = k.0; term = tree_at c t; stands = slice_get-map (tree_at c) ts k.0 ∙ ap (option_map (tree_at c)) k.1; subterm = whole _ }
    ];
  }

  pub needed_marked : (m m' : List Bool) (p q : ℕ) (v : View) → q ≡ p + 1 → HasView c p v → slice_get m p ≡ Some true → AreNeeded c ts m q → Marks m m' (λ i. IsPartOf i v) → AreNeeded c ts m' p
  needed_marked m m' p q v z h marked n x = record {
    of_bank = x.same_length ∙ n.of_bank;
    given = λ k t e. x.kept t (n.given k t e);
    parts = λ t v' from g e i r. parts_step t v' i g e r (later p t from);
    only = λ t g. elim (x.only t g) [
      | inl k ↦ n.only t k
      | inr k ↦ (let o = n.only p (record { mark = marked }) in record { place = o.place; term = o.term; stands = o.stands; subterm = IsSubterm-trans _ _ _ o.subterm (part-subterm c s p v h t k).1 })
    ];
  }
    where
      parts_step : (t : ℕ) (v' : View) (i : ℕ) → IsMarked m' t → HasView c t v' → IsPartOf i v' → (t ≡ p) ⊎ (p + 1 ≤ t) → IsMarked m' i
      parts_step t v' i g e q (inl r) = x.gained i (subst (λ (w : View). IsPartOf i w) (same_view v' v (type_number c t) (type_number c p) (sym e ∙ ap (slice_get c.terms) r ∙ h)) q)
      parts_step t v' i g e q (inr l) = elim (x.only t g) [
        | inl k ↦ x.kept i (n.parts t v' (omega arith) k e i q)
        | inr k ↦ (let b = (part-subterm c s p v h t k).0 in let f : ⊥ = omega arith in absurd f)
      ]

pub needed_unmarked : (c : Contents) (ts : List ℕ) (m : List Bool) (p q : ℕ) → q ≡ p + 1 → slice_get m p ≡ Some false → AreNeeded c ts m q → AreNeeded c ts m p
needed_unmarked c ts m p q z e n = record {
  of_bank = n.of_bank;
  given = n.given;
  parts = λ t v from g h. at t v from g h (later p t from);
  only = n.only;
}
  where
    at : (t : ℕ) (v : View) → p ≤ t → IsMarked m t → HasView c t v → (t ≡ p) ⊎ (p + 1 ≤ t) → (i : ℕ) → IsPartOf i v → IsMarked m i
    at t v from g h (inl r) i k = (let f = rw r at g.mark in let d : ⊥ = cc in absurd d)
    at t v from g h (inr l) i k = n.parts t v (omega arith) g h i k

-- banks with the same types and symbols
type_at-alike : (c d : Contents) → d.types ≡ c.types → (i : ℕ) → type_at d i ≡ type_at c i
unfolding type_at
type_at-alike c d e i = ap (λ xs. type_within xs (suc i) i) e

IsArrow-alike : (c d : Contents) → d.types ≡ c.types → (i a b : ℕ) → IsArrow c i a b → IsArrow d i a b
IsArrow-alike c d e i a b h = record { arrow_node = rw e h.arrow_node }

IsProperty-alike : (c d : Contents) → d.types ≡ c.types → (x : Option ℕ) (a : ℕ) → IsProperty c x a → IsProperty d x a
IsProperty-alike c d e x a h = record { number = h.number; argument_is = h.argument_is; property = IsArrow-alike c d e h.number a 0 h.property }

Takes-alike : (c d : Contents) → d.types ≡ c.types → (o : Op) (x y : Option ℕ) (i : ℕ) → Takes c o x y i → Takes d o x y i
Takes-alike c d e op.True x y i h = h
Takes-alike c d e op.False x y i h = h
Takes-alike c d e op.Not x y i h = h
Takes-alike c d e op.Or x y i h = h
Takes-alike c d e op.And x y i h = h
Takes-alike c d e op.Imp x y i h = h
Takes-alike c d e (op.Eq a) x y i h = h
Takes-alike c d e (op.All a) x y i h = (IsProperty-alike c d e x a h.0, h.1, h.2)
Takes-alike c d e (op.Some a) x y i h = (IsProperty-alike c d e x a h.0, h.1, h.2)
Takes-alike c d e (op.Eps a) x y i h = (IsProperty-alike c d e x a h.0, h.1, h.2)

-- a term that is made again of its parts
module _ (c d : Contents) (s : IsSound c) (types : d.types ≡ c.types) (symbols : d.symbols ≡ c.symbols) (ns : List ℕ) where
  abbrev Moved : ℕ → Type 0
  Moved i = IsTerm d (get_or ns i 0) (type_number c i) (tree_at c i)

  moved_below : (x : Option ℕ) → ((i : ℕ) → x ≡ Some i → Moved i) → IsArgumentBelow (length d.terms) (option_map (λ t. get_or ns t 0) x)
  moved_below None m = tt
  moved_below (Some x) m = (m x refl).within

  moved_type : (x : Option ℕ) → ((i : ℕ) → x ≡ Some i → Moved i) → argument_type d (option_map (λ t. get_or ns t 0) x) ≡ argument_type c x
  moved_type None m = refl
  moved_type (Some x) m = ap Some (m x refl).type_is

  moved_argument : (x : Option ℕ) → ((i : ℕ) → x ≡ Some i → Moved i) → argument (tree_at d) (option_map (λ t. get_or ns t 0) x) ≡ argument (tree_at c) x
  moved_argument None m = refl
  moved_argument (Some x) m = (m x refl).reads

  pub moved-sound : (t : ℕ) (v : View) → HasView c t v → ((i : ℕ) → IsPartOf i v → Moved i) → IsSoundView d (length d.terms) (moved_view ns v) (type_number c t)
  moved-sound t (Var n) h m = tt
  moved-sound t (Bound n) h m = tt
  moved-sound t (Sym n) h m = record { symbol_type = rw symbols (view_sound c s t (Sym n) h).0.symbol_type }
  moved-sound t (App f x) h m =
      let w = (view_sound c s t (App f x) h).0 in
      let p = m f (inl refl) in
      let q = m x (inr refl) in
      record { function_below = p.within; argument_below = q.within; typed = rw (p.type_is, q.type_is) (IsArrow-alike c d types _ _ _ w.typed) }
  moved-sound t (Lam a x) h m =
      let w = (view_sound c s t (Lam a x) h).0 in
      let p = m x (inl refl) in
      record { body_below = p.within; typed = rw p.type_is (IsArrow-alike c d types _ _ _ w.typed); bound_typed = rw (type_at-alike c d types a, p.reads) w.bound_typed }
  moved-sound t (Logic o x y) h m =
      let w = (view_sound c s t (Logic o x y) h).0 in
      let p : (i : ℕ) → x ≡ Some i → Moved i = λ i e. m i (inl e) in
      let q : (i : ℕ) → y ≡ Some i → Moved i = λ i e. m i (inr e) in
      record {
        first_below = moved_below x p;
        second_below = moved_below y q;
        type_below = rw types w.type_below;
        typed = rw (moved_type x p, moved_type y q) (Takes-alike c d types o _ _ _ w.typed);
      }

  pub moved-node : (t : ℕ) (v : View) → HasView c t v → ((i : ℕ) → IsPartOf i v → Moved i) → IsSoundNode d (length d.terms) (node (moved_view ns v) (type_number c t))
  moved-node t v h m = record {
    type_below = rw types (IsSoundNode-leaf c s t (view_sound c s t v h).1);
    view_sound = moved-sound t v h m;
  }

  connective-alike : (t : ℕ) (o : Op) (x y : Option ℕ) → HasView c t (Logic o x y) → connective d o ≡ connective c o
  connective-alike t o x y h = connective-same c d (λ i l. type_at-alike c d types i) o (view_sound c s t (Logic o x y) h).0.type_below

  pub moved-reads : (t : ℕ) (v : View) → HasView c t v → ((i : ℕ) → IsPartOf i v → Moved i) → view_tree d (tree_at d) (moved_view ns v) (type_at d (type_number c t)) ≡ tree_at c t
  moved-reads t (Var n) h m = rw (tree-var c s t n h, type_at-alike c d types (type_number c t)) refl
  moved-reads t (Bound n) h m = rw (tree-bound c s t n h, type_at-alike c d types (type_number c t)) refl
  moved-reads t (Sym n) h m = rw (tree-sym c s t n h, type_at-alike c d types (type_number c t)) refl
  moved-reads t (App f x) h m =
      let p = m f (inl refl) in
      let q = m x (inr refl) in
      rw (tree-app c s t f x h, p.reads, q.reads) refl
  moved-reads t (Lam a x) h m =
      let p = m x (inl refl) in
      rw (tree-lam c s t a x h, p.reads, type_at-alike c d types a) refl
  moved-reads t (Logic o x y) h m =
      let p : (i : ℕ) → x ≡ Some i → Moved i = λ i e. m i (inl e) in
      let q : (i : ℕ) → y ≡ Some i → Moved i = λ i e. m i (inr e) in
      rw (tree-logic c s t o x y h, moved_argument x p, moved_argument y q, connective-alike t o x y h) refl

-- the terms that a bank has gained
pub added_only : (old new : List TermNode) (x : TermNode) (n : ℕ) → AddsShared old new x n → (u : ℕ) → u < length new → (u < length old) ⊎ (u ≡ n)
added_only old new x n a u l =
    let w = slice_get-some new u l in
    elim (a.only u w.0 w.1) [
      | inl h ↦ inl (slice_get_within old u w.0 h)
      | inr h ↦ inr (a.shared u n x (rw h.1 at w.1) a.stored)
    ]

-- a bank without its terms
pub without_terms-sound : (c : Contents) → IsSound c → IsSound (record c { terms = [] })
without_terms-sound c s = record {
  truth_first = s.truth_first;
  thing_second = s.thing_second;
  types_sound = s.types_sound;
  types_shared = s.types_shared;
  symbols_sound = s.symbols_sound;
  terms_sound = λ t n h. (let f : ⊥ = cc in absurd f);
  terms_shared = λ i j x h k. (let f : ⊥ = cc in absurd f);
  terms_fit = omega arith;
}

pub moved_first : (c : Contents) (marks : List Bool) (d : Contents) → IsSound d → d ≡ record c { terms = [] } → IsMoved c marks d [] 0
moved_first c marks d s e = record {
  sound = s;
  rest = e ∙ ap (λ xs. record c { terms = xs }) (sym (ap (λ (b : Contents). b.terms) e));
  count = refl;
  moved = λ t l m. (let f : ⊥ = omega arith in absurd f);
  only = λ u l. (let g : u < 0 = rw (ap (λ (b : Contents). b.terms) e) at l in let f : ⊥ = omega arith in absurd f);
}

get_or-before : (ns : List ℕ) (r t : ℕ) → t < length ns → get_or (ns ++ r ∷ []) t 0 ≡ get_or ns t 0
get_or-before [] r t l = absurd (omega arith)
get_or-before (n ∷ ns) r zero l = refl
get_or-before (n ∷ ns) r (suc t) l = get_or-before ns r t (omega arith)

get_or-last : (ns : List ℕ) (r t : ℕ) → t ≡ length ns → get_or (ns ++ r ∷ []) t 0 ≡ r
get_or-last ns r t e = rw e (last ns)
  where
    last : (ns : List ℕ) → get_or (ns ++ r ∷ []) (length ns) 0 ≡ r
    last [] = refl
    last (n ∷ ns) = last ns

length-next : (ns : List ℕ) (r : ℕ) → length (ns ++ r ∷ []) ≡ length ns + 1
length-next [] r = refl
length-next (n ∷ ns) r = omega (arith, length-next ns r)

module _ (c : Contents) (marks : List Bool) (d : Contents) (ns : List ℕ) (p : ℕ) (m : IsMoved c marks d ns p) where
  pub moved_parts : IsMarked marks p → ArePartsMarked c marks 0 → IsSound c → AreMovedParts c d ns p
  moved_parts h parts s v k i q = m.moved i (part-subterm c s p v k i q).0 (parts p v (omega arith) h k i q)

  pub moved_unmarked : (r : ℕ) → slice_get marks p ≡ Some false → IsMoved c marks d (ns ++ r ∷ []) (p + 1)
  moved_unmarked r e = record {
    sound = m.sound;
    rest = m.rest;
    count = length-next ns r ∙ ap (λ n. n + 1) m.count;
    moved = λ t l h. at t h (before_or_at p t l);
    only = m.only;
  }
    where
      at : (t : ℕ) → IsMarked marks t → (t < p) ⊎ (t ≡ p) → IsTerm d (get_or (ns ++ r ∷ []) t 0) (type_number c t) (tree_at c t)
      at t h (inl l) = rw (get_or-before ns r t (rw m.count l)) (m.moved t l h)
      at t h (inr q) = (let f = rw q at h.mark in let g : ⊥ = cc in absurd g)

  pub moved_marked : (d' : Contents) (r : ℕ) → IsMarked marks p → Grows d d' → d' ≡ record c { terms = d'.terms } → IsTerm d' r (type_number c p) (tree_at c p) → ((u : ℕ) → u < length d'.terms → (u < length d.terms) ⊎ (u ≡ r)) → IsMoved c marks d' (ns ++ r ∷ []) (p + 1)
  moved_marked d' r h g rest made only = record {
    sound = g.new_sound;
    rest = rest;
    count = length-next ns r ∙ ap (λ n. n + 1) m.count;
    moved = λ t l k. at t k (before_or_at p t l);
    only = λ u l. from u (only u l);
  }
    where
      at : (t : ℕ) → IsMarked marks t → (t < p) ⊎ (t ≡ p) → IsTerm d' (get_or (ns ++ r ∷ []) t 0) (type_number c t) (tree_at c t)
      at t k (inl l) = rw (get_or-before ns r t (rw m.count l)) (IsTerm-keeps d d' g _ _ _ (m.moved t l k))
      at t k (inr q) = rw (get_or-last ns r t (q ∙ sym m.count), q) made

      from : (u : ℕ) → (u < length d.terms) ⊎ (u ≡ r) → (t : ℕ) × (IsMarked marks t) × (tree_at d' u ≡ tree_at c t)
      from u (inl l) = let w = m.only u l in (w.0, w.1, tree-keeps d d' g.old_sound g.keeps u l ∙ w.2)
      from u (inr e) = (p, h, rw e made.reads)

-- the part as a whole
map-alike : {X : Type 0} (f : ℕ → ℕ) (g h : ℕ → X) (ts : List ℕ) → ((k t : ℕ) → slice_get ts k ≡ Some t → g (f t) ≡ h t) → map g (map f ts) ≡ map h ts
map-alike f g h [] same = refl
map-alike f g h (t ∷ ts) same = rw (same 0 t refl, map-alike f g h ts (λ k u e. same (suc k) u e)) refl

all_of_map : (P : ℕ → Type 0) (f : ℕ → ℕ) (ts : List ℕ) → ((k t : ℕ) → slice_get ts k ≡ Some t → P (f t)) → (n u : ℕ) → slice_get (map f ts) n ≡ Some u → P u
all_of_map P f [] all n u e = (let f : ⊥ = cc in absurd f)
all_of_map P f (t ∷ ts) all zero u e = subst P (some_number (f t) u e) (all 0 t refl)
all_of_map P f (t ∷ ts) all (suc n) u e = all_of_map P f ts (λ k v h. all (suc k) v h) n u e

pub is_part : (c : Contents) (ts : List ℕ) (marks : List Bool) (d : Contents) (ns us : List ℕ) → AreTerms c ts → AreNeeded c ts marks 0 → IsMoved c marks d ns (length c.terms) → us ≡ map (λ t. get_or ns t 0) ts → IsPart c ts d us
unfolding HasOnly
is_part c ts marks d ns us within n m e = rw e (record {
  bank = is_bank d m.sound;
  rest = m.rest;
  terms = all_of_map (λ u. u < length d.terms) (λ t. get_or ns t 0) ts (λ k t h. (made k t h).within);
  reads = map-alike (λ t. get_or ns t 0) (tree_at d) (tree_at c) ts (λ k t h. (made k t h).reads);
  type_numbers = map-alike (λ t. get_or ns t 0) (type_number d) (type_number c) ts (λ k t h. (made k t h).type_is);
  only = λ u l. (let w = m.only u l in rw w.2 (n.only w.0 w.1));
})
  where
    made : (k t : ℕ) → slice_get ts k ≡ Some t → IsTerm d (get_or ns t 0) (type_number c t) (tree_at c t)
    made k t h = m.moved t (within k t h) (n.given k t h)

pub if_both : {E : Type 0} (r : Result ℕ E) (P Q R : ℕ → Type 0) → ((x : ℕ) → P x → Q x → R x) → IfOk r P → IfOk r Q → IfOk r R
if_both (Ok x) P Q R f p q = f x p q
if_both (Err e) P Q R f p q = tt

-- for callers: a part has the types of its source under their numbers, and only subterms of the terms that it was asked for
pub part-type : {c d : Contents} {ts us : List ℕ} → IsPart c ts d us → (i : ℕ) → type_at d i ≡ type_at c i
part-type {c} {d} p i = type_at-alike c d (ap (λ (b : Contents). b.types) p.rest) i

pub part-only : {c d : Contents} {ts us : List ℕ} → IsPart c ts d us → (u : ℕ) → u < length d.terms → IsSubtermOfOne (tree_at d u) (map (tree_at c) ts)
unfolding HasOnly
part-only {c} {d} p u l = p.only u l
