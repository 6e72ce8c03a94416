-- The steps of the calls that bind loose indices anew.
use Rattle.std.proofs.Common.{ℕ, zero, suc, nat_eq, nat_lt, ◌≡◌, ◌∙◌, ◌+◌, ◌-◌, ◌<◌, ◌≤◌, Bool, true, false, not, ◌&&◌, ◌||◌, List, [], ◌∷◌, length, map, drop, slice_index_or, Option, Some, None, refl, sym, ap, subst, arith}
use Rattle.std.proofs.lemmas.Bool.Decides.{nat_tests}
use Rattle.leo_q0.specs.Terms.{SimpleType}
use Rattle.leo_terms.specs.declared.node.Op.{Op}
use Rattle.leo_terms.specs.declared.node.Op.TheVariants as op
use Rattle.leo_terms.specs.declared.node.View.TheVariants.{Lam, Logic}
use Rattle.leo_terms.specs.Tree.{Tree, variable, bound, symbol, app, lam, logic, absent, equality, universal, existential, choice, IsBoundAt}
use Rattle.leo_terms.specs.Facts.{loose_range, variable_range}
use Rattle.leo_terms.specs.Contents.{Contents, IsBank, Extends, IsTerm, IsArgumentTerm, IsArgumentBelow, IsArrow, IsApplicable, IsSoundLam, IsSoundLogic, Takes, HasTypeBelow, tree_at, type_at, type_number, codomain_number, argument, argument_type, connective, operator_type}
use Rattle.leo_terms.proofs.CallerLemmas.{new_bank, extends-trans, type-kept, tree-kept, type_number-kept, term-kept, argument_term-kept, arrow-kept, applicable, type-shared, view-typed, arrow-parts, reads-arrow, reads-lam, reads-logic, HasView, grown}
use Rattle.leo_terms.proofs.Growth.{Takes-keeps}
use Rattle.leo_clause.specs.Typed.{AreTypesOf}
use Rattle.leo_clause.specs.Arranging.{place_in}
use Rattle.leo_unify.specs.Patterns.{is_covered, rebound, abstracted}
use Rattle.leo_unify.specs.Views.{AreBodyTypes}
use Rattle.leo_unify.proofs.PatternLemmas.{bound-rebound_below}

-- ---- whether a term is covered

pub covered-closed : (number : ℕ) (order : List ℕ) (t : Tree) (k : ℕ) → variable_range t ≤ number → loose_range t ≤ k → is_covered number order k t ≡ true
covered-closed number order (variable n b) k p q = other (nat_eq n number) refl
  where
    other : (b : Bool) → nat_eq n number ≡ b → not b ≡ true
    other true e = (let m : n ≡ number = grind (arith, nat_tests) in absurd (omega arith))
    other false e = refl
covered-closed number order (bound i b) k p q =
    let l : i < k = omega arith in
    let e : nat_lt i k ≡ true = grind (arith, nat_tests) in
    rw e refl
covered-closed number order (symbol s b) k p q = refl
covered-closed number order (app f x) k p q = rw (covered-closed number order f k (omega arith) (omega arith), covered-closed number order x k (omega arith) (omega arith)) refl
covered-closed number order (lam b t) k p q = covered-closed number order t (k + 1) p (omega arith)
covered-closed number order (logic c x y) k p q = rw (covered-closed number order x k (omega arith) (omega arith), covered-closed number order y k (omega arith) (omega arith)) refl
covered-closed number order absent k p q = refl

pub covered-inside : (i k : ℕ) (b : Bool) → i < k → true ≡ (nat_lt i k || b)
covered-inside i k b l = let e : nat_lt i k ≡ true = grind (arith, nat_tests) in rw e refl

pub covered-outside : (i k : ℕ) (b c : Bool) → k ≤ i → c ≡ b → c ≡ (nat_lt i k || b)
covered-outside i k b c l h = let e : nat_lt i k ≡ false = grind (arith, nat_tests) in rw e h

pub first-fails : (a p q : Bool) → a ≡ p → a ≡ false → false ≡ (p && q)
first-fails a p q e t = let h : p ≡ false = sym e ∙ t in rw h refl

pub second-decides : (a b p q : Bool) → a ≡ p → a ≡ true → b ≡ q → b ≡ (p && q)
second-decides a b p q e t f = let h : p ≡ true = sym e ∙ t in rw (h, f) refl

-- ---- places

drop-at : {X : Type 0} (xs : List X) (p : ℕ) (x : X) → p < length xs → x ≡ slice_index_or xs p x → drop p xs ≡ x ∷ drop (suc p) xs
drop-at [] p x l e = absurd (omega arith)
drop-at (y ∷ xs) zero x l e = ap (λ z. z ∷ xs) (sym e)
drop-at (y ∷ xs) (suc p) x l e = drop-at xs p x (omega arith) e

pub drop-next : {X : Type 0} (xs : List X) (p : ℕ) (x : X) → p < length xs → x ≡ slice_index_or xs p x → drop p xs ≡ x ∷ drop (p + 1) xs
drop-next xs p x l e = let f : p + 1 ≡ suc p = omega arith in rw f (drop-at xs p x l e)

drop-end : {X : Type 0} (xs : List X) (p : ℕ) → length xs ≤ p → drop p xs ≡ []
drop-end [] zero l = refl
drop-end [] (suc p) l = refl
drop-end (x ∷ xs) zero l = absurd (omega arith)
drop-end (x ∷ xs) (suc p) l = drop-end xs p (omega arith)

pub place-found : (order : List ℕ) (n p x : ℕ) → p < length order → x ≡ slice_index_or order p x → place_in order n ≡ p + place_in (drop p order) n → nat_eq n x ≡ true → p ≡ place_in order n
place-found order n p x l e h t =
    let f : place_in (drop p order) n ≡ 0 = rw (drop-next order p x l e, t) refl in
    omega arith

pub place-next : (order : List ℕ) (n p x : ℕ) → p < length order → x ≡ slice_index_or order p x → place_in order n ≡ p + place_in (drop p order) n → nat_eq n x ≡ false → place_in order n ≡ p + 1 + place_in (drop (p + 1) order) n
place-next order n p x l e h t =
    let f : place_in (drop p order) n ≡ suc (place_in (drop (p + 1) order) n) = rw (drop-next order p x l e, t) refl in
    omega arith

pub place-none : (order : List ℕ) (n p : ℕ) → length order ≤ p → p ≤ length order → place_in order n ≡ p + place_in (drop p order) n → length order ≡ place_in order n
place-none order n p l m h =
    let f : place_in (drop p order) n ≡ 0 = rw (drop-end order p l) refl in
    omega arith

-- ---- a term whose indices become places

pub rebound-closed : (order : List ℕ) (t : Tree) (k : ℕ) → loose_range t ≤ k → rebound order k t ≡ t
rebound-closed order (variable n b) k q = refl
rebound-closed order (bound i b) k q =
    let l : i < k = omega arith in
    let e : nat_lt i k ≡ true = grind (arith, nat_tests) in
    rw e refl
rebound-closed order (symbol s b) k q = refl
rebound-closed order (app f x) k q = rw (rebound-closed order f k (omega arith), rebound-closed order x k (omega arith)) refl
rebound-closed order (lam b t) k q = ap (lam b) (rebound-closed order t (k + 1) (omega arith))
rebound-closed order (logic c x y) k q = rw (rebound-closed order x k (omega arith), rebound-closed order y k (omega arith)) refl
rebound-closed order absent k q = refl

pub rebound-inside : (order : List ℕ) (i k : ℕ) (a : SimpleType) → i < k → rebound order k (bound i a) ≡ bound i a
rebound-inside order i k a l = let e : nat_lt i k ≡ true = grind (arith, nat_tests) in rw e refl

pub rebound-outside : (order : List ℕ) (i k : ℕ) (a : SimpleType) → k ≤ i → rebound order k (bound i a) ≡ bound (k + place_in order (i - k)) a
rebound-outside order i k a l = let e : nat_lt i k ≡ false = grind (arith, nat_tests) in rw e refl

-- a term that stays
pub rebound-kept : (c : Contents) (order : List ℕ) (t k : ℕ) → t < length c.terms → rebound order k (tree_at c t) ≡ tree_at c t → IsTerm c t (type_number c t) (rebound order k (tree_at c t))
rebound-kept c order t k l e = record { within = l; type_is = refl; reads = sym e }

-- the parts of an application
module _ {c d e : Contents} (p : Extends c d) (q : Extends d e) (order : List ℕ) (k f x g y i : ℕ) (h : IsArrow c (type_number c f) (type_number c x) i) (m : IsTerm d g (type_number c f) (rebound order k (tree_at c f))) (n : IsTerm e y (type_number d x) (rebound order k (tree_at d x))) (lx : x < length c.terms) where
  function-later : IsTerm e g (type_number c f) (rebound order k (tree_at c f))
  function-later = term-kept q m

  argument-later : IsTerm e y (type_number c x) (rebound order k (tree_at c x))
  argument-later = rw (type_number-kept p x lx, tree-kept p x lx) at n

  pub app-applicable : IsApplicable e g y
  app-applicable = (applicable function-later argument-later (arrow-kept q (arrow-kept p h))).0

  pub app-rebound : {b : Contents} {r : ℕ} → IsTerm b r (codomain_number e (type_number e g)) (app (tree_at e g) (tree_at e y)) → IsTerm b r i (app (rebound order k (tree_at c f)) (rebound order k (tree_at c x)))
  app-rebound {b} {r} t =
      let w = (applicable function-later argument-later (arrow-kept q (arrow-kept p h))).1 in
      record { within = t.within; type_is = t.type_is ∙ w; reads = t.reads ∙ rw (function-later.reads, argument-later.reads) refl }

-- the part of a lambda
module _ {c d : Contents} (p : Extends c d) (b : IsBank c) (order : List ℕ) (t a body inner under k i : ℕ) (h : HasView c t (Lam a body)) (f : under ≡ k + 1) (m : IsTerm d inner i (rebound order under (tree_at c body))) where
  lam-view : IsSoundLam c t a body (type_number c t)
  lam-view = view-typed b t (Lam a body) h

  pub lam-type : a < length c.types
  lam-type = let w = arrow-parts b lam-view.typed in let x = w.0 in let y = w.1 in omega arith

  pub lam-type_later : a < length d.types
  lam-type_later = let x = lam-type in let y = p.types_more in omega arith

  pub lam-typed : IsBoundAt 0 (type_at d a) (tree_at d inner)
  lam-typed = rw (m.reads, type-kept p a lam-type) (bound-rebound_below order (tree_at c body) under 0 (type_at c a) (omega arith) lam-view.bound_typed)

  pub lam-rebound : {e : Contents} {r : ℕ} → Extends d e → type_number c body ≡ i → IsTerm e r (type_number e r) (lam (type_at d a) (tree_at d inner)) → IsArrow e (type_number e r) a (type_number d inner) → IsTerm e r (type_number c t) (rebound order k (tree_at c t))
  lam-rebound {e} {r} q s made arrow =
      let old : IsArrow e (type_number c t) a (type_number c body) = arrow-kept q (arrow-kept p lam-view.typed) in
      let new : IsArrow e (type_number e r) a (type_number c body) = rw (m.type_is ∙ sym s) at arrow in
      let z = new_bank q in
      let v : type_number e r ≡ type_number c t = type-shared z _ _ (arrow-parts z new).0 (arrow-parts z old).0 (reads-arrow z new ∙ sym (reads-arrow z old)) in
      record { within = made.within; type_is = v; reads = made.reads ∙ rw (reads-lam b t a body h, m.reads, type-kept p a lam-type, f) refl }

-- the arguments of a logical constant
takes-type : (c : Contents) (o : Op) (x y : Option ℕ) (i : ℕ) → Takes c o x y i → i ≡ operator_type o
takes-type c op.True x y i h = h.2
takes-type c op.False x y i h = h.2
takes-type c op.Not x y i h = h.2
takes-type c op.Or x y i h = h.2
takes-type c op.And x y i h = h.2
takes-type c op.Imp x y i h = h.2
takes-type c (op.Eq a) x y i h = h.2
takes-type c (op.All a) x y i h = h.2
takes-type c (op.Some a) x y i h = h.2
takes-type c (op.Eps a) x y i h = h.2

type-below-more : (m n : ℕ) → m ≤ n → (o : Op) → HasTypeBelow m o → HasTypeBelow n o
type-below-more m n l op.True h = tt
type-below-more m n l op.False h = tt
type-below-more m n l op.Not h = tt
type-below-more m n l op.Or h = tt
type-below-more m n l op.And h = tt
type-below-more m n l op.Imp h = tt
type-below-more m n l (op.Eq a) h = omega arith
type-below-more m n l (op.All a) h = omega arith
type-below-more m n l (op.Some a) h = omega arith
type-below-more m n l (op.Eps a) h = omega arith

connective-later : {c d : Contents} → Extends c d → (o : Op) → HasTypeBelow (length c.types) o → connective d o ≡ connective c o
connective-later e op.True h = refl
connective-later e op.False h = refl
connective-later e op.Not h = refl
connective-later e op.Or h = refl
connective-later e op.And h = refl
connective-later e op.Imp h = refl
connective-later e (op.Eq a) h = ap equality (type-kept e a h)
connective-later e (op.All a) h = ap universal (type-kept e a h)
connective-later e (op.Some a) h = ap existential (type-kept e a h)
connective-later e (op.Eps a) h = ap choice (type-kept e a h)

below-later : (m n : ℕ) → m ≤ n → (x : Option ℕ) → IsArgumentBelow m x → IsArgumentBelow n x
below-later m n l None h = tt
below-later m n l (Some x) h = omega arith

argument-type-later : {c d : Contents} → Extends c d → (x : Option ℕ) → IsArgumentBelow (length c.terms) x → argument_type d x ≡ argument_type c x
argument-type-later e None h = refl
argument-type-later e (Some x) h = ap Some (type_number-kept e x h)

argument-later_reads : {c d : Contents} → Extends c d → (x : Option ℕ) → IsArgumentBelow (length c.terms) x → argument (tree_at d) x ≡ argument (tree_at c) x
argument-later_reads e None h = refl
argument-later_reads e (Some x) h = tree-kept e x h

module _ {c d e : Contents} (p : Extends c d) (q : Extends d e) (order : List ℕ) (k t : ℕ) (o : Op) (x y r s : Option ℕ) (h : HasView c t (Logic o x y)) (b : IsBank c) (l : t < length c.terms) (m : IsArgumentTerm d r (argument_type c x) (rebound order k (argument (tree_at c) x))) (n : IsArgumentTerm e s (argument_type d y) (rebound order k (argument (tree_at d) y))) where
  logic-view : IsSoundLogic c t o x y (type_number c t)
  logic-view = view-typed b t (Logic o x y) h

  second-below : IsArgumentBelow (length c.terms) y
  second-below = below-later t (length c.terms) (omega arith) y logic-view.second_below

  pub first-argument : IsArgumentTerm e r (argument_type c x) (rebound order k (argument (tree_at c) x))
  first-argument = argument_term-kept q m

  pub second-argument : IsArgumentTerm e s (argument_type c y) (rebound order k (argument (tree_at c) y))
  second-argument = rw (argument-type-later p y second-below, argument-later_reads p y second-below) at n

  pub logic-type : HasTypeBelow (length e.types) o
  logic-type = let u = p.types_more in let v = q.types_more in type-below-more (length c.types) (length e.types) (omega arith) o logic-view.type_below

  pub logic-takes : Takes e o (argument_type e r) (argument_type e s) (operator_type o)
  logic-takes =
      let g : Takes c o (argument_type c x) (argument_type c y) (operator_type o) = subst (λ (z : ℕ). Takes c o (argument_type c x) (argument_type c y) z) (takes-type c o (argument_type c x) (argument_type c y) (type_number c t) logic-view.typed) logic-view.typed in
      rw (first-argument.type_is, second-argument.type_is) (Takes-keeps c e (grown c e (extends-trans p q)).keeps o (argument_type c x) (argument_type c y) (operator_type o) g)

  pub logic-rebound : {f : Contents} {z : ℕ} → IsTerm f z (operator_type o) (logic (connective e o) (argument (tree_at e) r) (argument (tree_at e) s)) → IsTerm f z (type_number c t) (rebound order k (tree_at c t))
  logic-rebound {f} {z} made = record {
    within = made.within;
    type_is = made.type_is ∙ sym (takes-type c o (argument_type c x) (argument_type c y) (type_number c t) logic-view.typed);
    reads = made.reads ∙ rw (reads-logic b t o x y h, first-argument.reads, second-argument.reads, connective-later (extends-trans p q) o logic-view.type_below) refl;
  }

-- ---- functions of indices

mapped : {X Y : Type 0} (f : X → Y) (xs : List X) (p : ℕ) (x : X) → p < length xs → x ≡ slice_index_or xs p x → drop p (map f xs) ≡ f x ∷ drop (p + 1) (map f xs)
mapped {X = X} {Y = Y} f xs p x l e = let g : p + 1 ≡ suc p = omega arith in rw g (go xs p l e)
  where
    go : (xs : List X) (p : ℕ) → p < length xs → x ≡ slice_index_or xs p x → drop p (map f xs) ≡ f x ∷ drop (suc p) (map f xs)
    go [] p l e = absurd (omega arith)
    go (y ∷ xs) zero l e = rw e refl
    go (y ∷ xs) (suc p) l e = go xs p (omega arith) e

pub mapped-end : {X Y : Type 0} (f : X → Y) (xs : List X) (p : ℕ) → length xs ≤ p → drop p (map f xs) ≡ []
mapped-end f [] zero l = refl
mapped-end f [] (suc p) l = refl
mapped-end f (x ∷ xs) zero l = absurd (omega arith)
mapped-end f (x ∷ xs) (suc p) l = mapped-end f xs p (omega arith)

module _ {b c : Contents} (e : Extends b c) (types : List ℕ) (p a t : ℕ) (ts : AreTypesOf b types) (l : p < length types) (at : a ≡ slice_index_or types p a) (h : AreBodyTypes (drop p (map (type_at b) types)) (tree_at c t)) where
  pub next-type : a < length c.types
  next-type = let m = e.types_more in let k = go types p ts l at in omega arith
    where
      go : (types : List ℕ) (p : ℕ) → AreTypesOf b types → p < length types → a ≡ slice_index_or types p a → a < length b.types
      go [] p h l at = absurd (omega arith)
      go (x ∷ types) zero h l at = rw at h.0
      go (x ∷ types) (suc p) h l at = go types p h.1 (omega arith) at

  old-type : a < length b.types
  old-type = go types p ts l at
    where
      go : (types : List ℕ) (p : ℕ) → AreTypesOf b types → p < length types → a ≡ slice_index_or types p a → a < length b.types
      go [] p h l at = absurd (omega arith)
      go (x ∷ types) zero h l at = rw at h.0
      go (x ∷ types) (suc p) h l at = go types p h.1 (omega arith) at

  pub next-bound : IsBoundAt 0 (type_at c a) (tree_at c t)
  next-bound = rw (type-kept e a old-type) ((rw (mapped (type_at b) types p a l at) at h) 0 (type_at b a) refl)

  pub next-types : (d : Contents) (r : ℕ) → tree_at d r ≡ lam (type_at c a) (tree_at c t) → AreBodyTypes (drop (p + 1) (map (type_at b) types)) (tree_at d r)
  next-types d r m q x g = rw m (let k : IsBoundAt (suc q) x (tree_at c t) = (rw (mapped (type_at b) types p a l at) at h) (suc q) x g in let f : suc q ≡ q + 1 = omega arith in (rw f at k))

  pub next-abstracted : (d : Contents) (r : ℕ) (whole : Tree) → tree_at d r ≡ lam (type_at c a) (tree_at c t) → abstracted (drop p (map (type_at b) types)) (tree_at c t) ≡ whole → abstracted (drop (p + 1) (map (type_at b) types)) (tree_at d r) ≡ whole
  next-abstracted d r whole m g = rw (m, type-kept e a old-type) (rw (mapped (type_at b) types p a l at) at g)
