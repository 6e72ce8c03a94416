-- Terms of a bank with another child, and with something else at a path.
use Rattle.std.proofs.Common.{ℕ, zero, suc, ◌≡◌, ◌∙◌, ◌<◌, List, [], ◌∷◌, length, Option, Some, None, refl, sym, ap, subst, arith}
use Rattle.std.specs.Prelude.{IsSomeAnd}
use Rattle.std.specs.Option.{option_and_then}
use Rattle.leo_terms.specs.declared.node.Op.{Op}
use Rattle.leo_terms.specs.declared.node.Op.TheVariants as op
use Rattle.leo_terms.specs.Tree.{Tree, variable, bound, symbol, app, lam, logic, absent, Connective, type_of}
use Rattle.leo_terms.specs.Contents.{Contents, IsBank, Extends, IsTerm, IsApplicable, IsArrow, IsArgumentBelow, Takes, argument, argument_type, codomain_number, connective, operator_type, tree_at, type_at, type_number}
use Rattle.leo_terms.proofs.CallerLemmas.{applicable, new_bank, old_bank, term-present, tree-kept, type-kept, type-shared, type_number-kept, type_number-within, type_of-term}
use Rattle.leo_kernel.specs.Moved.{put_child}
use Rattle.leo_kernel.specs.Places.{child, present, replaced_at, subterm, with_child}
use Rattle.leo_kernel.proofs.MovedTerms.{present-same}
use Rattle.leo_kernel.proofs.Paths.{present-itself}

some-value : {X : Type 0} {x y : X} → Some x ≡ Some y → x ≡ y
some-value e = cc

pub and-value : {X : Type 0} (P : X → Type 0) (o : Option X) (x : X) → o ≡ Some x → IsSomeAnd o P → P x
and-value P o x e h = subst (λ q. IsSomeAnd q P) e h

pub value-and : {X : Type 0} (P : X → Type 0) (o : Option X) (x : X) → o ≡ Some x → P x → IsSomeAnd o P
value-and P o x e h = subst (λ q. IsSomeAnd q P) (sym e) h

-- only what becomes of the child matters
put-changed : (n : ℕ) (change : Tree → Tree) (s a : Tree) → child n s ≡ Some a → with_child n change s ≡ put_child n (change a) s
put-changed zero change (app f x) a e = let g : f ≡ a = some-value e in rw g refl
put-changed (suc zero) change (app f x) a e = let g : x ≡ a = some-value e in rw g refl
put-changed (suc (suc n)) change (app f x) a e = refl
put-changed zero change (logic c x y) a e = let g : x ≡ a = present-same x a e in rw g refl
put-changed (suc zero) change (logic c x y) a e = let g : y ≡ a = present-same y a e in rw g refl
put-changed (suc (suc n)) change (logic c x y) a e = refl
put-changed n change (variable m b) a e = refl
put-changed n change (bound i b) a e = refl
put-changed n change (symbol m b) a e = refl
put-changed n change (lam b t) a e = refl
put-changed n change absent a e = refl

pub takes-type : (c : Contents) (o : Op) (x y : Option ℕ) (i : ℕ) → Takes c o x y i → i ≡ operator_type o
takes-type c op.True x y i h = h.2
takes-type c op.False x y i h = h.2
takes-type c op.Not x y i h = h.2
takes-type c op.Or x y i h = h.2
takes-type c op.And x y i h = h.2
takes-type c op.Imp x y i h = h.2
takes-type c (op.Eq a) x y i h = h.2
takes-type c (op.All a) x y i h = h.2
takes-type c (op.Some a) x y i h = h.2
takes-type c (op.Eps a) x y i h = h.2

pub takes-itself : (c : Contents) (o : Op) (x y : Option ℕ) (i : ℕ) → Takes c o x y i → Takes c o x y (operator_type o)
takes-itself c o x y i h = subst (λ (z : ℕ). Takes c o x y z) (takes-type c o x y i h) h

pub term-as : {d : Contents} {u i j : ℕ} {s t : Tree} → IsTerm d u i s → i ≡ j → s ≡ t → IsTerm d u j t
term-as m e f = record { within = m.within; type_is = m.type_is ∙ e; reads = m.reads ∙ f }

module _ (c : Contents) (b : IsBank c) where
  itself : (t : ℕ) → t < length c.terms → IsTerm c t (type_number c t) (tree_at c t)
  itself t l = record { within = l; type_is = refl; reads = refl }

  pub same-numbers : (t u : ℕ) → t < length c.terms → u < length c.terms → type_of (tree_at c t) ≡ type_of (tree_at c u) → type_number c t ≡ type_number c u
  same-numbers t u p q e =
      type-shared b (type_number c t) (type_number c u) (type_number-within b t p) (type_number-within b u q)
      (sym (type_of-term b t p) ∙ e ∙ type_of-term b u q)

  -- at the end of a path
  pub replaced-whole : (t by : ℕ) (path : List ℕ) → t < length c.terms → by < length c.terms → length path ≡ 0 → IsSomeAnd (subterm path (tree_at c t)) (λ s. type_of s ≡ type_of (tree_at c by)) → IsTerm c by (type_number c t) (replaced_at path (tree_at c by) (tree_at c t))
  replaced-whole t by [] p q l h = record { within = q; type_is = sym (same-numbers t by p q h); reads = refl }
  replaced-whole t by (n ∷ path) p q l h = absurd (omega arith)

  -- applications
  pub app-whole : (f x i : ℕ) → f < length c.terms → x < length c.terms → IsArrow c (type_number c f) (type_number c x) i → IsApplicable c f x × (codomain_number c (type_number c f) ≡ i)
  app-whole f x i p q h = applicable (itself f p) (itself x q) h

  module _ (f x part number : ℕ) (p : f < length c.terms) (q : x < length c.terms) (l : part < length c.terms) (h : IsApplicable c f x) (typed : IsSomeAnd (child number (app (tree_at c f) (tree_at c x))) (λ s. type_of s ≡ type_of (tree_at c part))) where
    function-alike : number ≡ 0 → type_number c f ≡ type_number c part
    function-alike e = same-numbers f part p l (rw e at typed)

    argument-alike : number ≡ 1 → type_number c x ≡ type_number c part
    argument-alike e = same-numbers x part q l (rw e at typed)

    pub other-function : number ≡ 0 → IsApplicable c part x
    other-function e = rw (function-alike e) at h

    pub other-argument : number ≡ 1 → IsApplicable c f part
    other-argument e = rw (argument-alike e) at h

    pub function-put : number ≡ 0 → {d : Contents} {t : ℕ} → IsTerm d t (codomain_number c (type_number c part)) (app (tree_at c part) (tree_at c x)) → IsTerm d t (codomain_number c (type_number c f)) (put_child number (tree_at c part) (app (tree_at c f) (tree_at c x)))
    function-put e {d} {t} m = rw (e, function-alike e) m

    pub argument-put : number ≡ 1 → {d : Contents} {t : ℕ} → IsTerm d t (codomain_number c (type_number c f)) (app (tree_at c f) (tree_at c part)) → IsTerm d t (codomain_number c (type_number c f)) (put_child number (tree_at c part) (app (tree_at c f) (tree_at c x)))
    argument-put e {d} {t} m = rw e m

  -- logical constants
  argument-type : (x : Option ℕ) (part : ℕ) → IsArgumentBelow (length c.terms) x → part < length c.terms → IsSomeAnd (present (argument (tree_at c) x)) (λ s. type_of s ≡ type_of (tree_at c part)) → argument_type c x ≡ argument_type c (Some part)
  argument-type None part p l h = absurd h
  argument-type (Some t) part p l h = ap Some (same-numbers t part p l (and-value (λ s. type_of s ≡ type_of (tree_at c part)) (present (tree_at c t)) (tree_at c t) (present-itself (tree_at c t) (term-present b t p)) h))

  module _ (o : Op) (x y : Option ℕ) (part number : ℕ) (p : IsArgumentBelow (length c.terms) x) (q : IsArgumentBelow (length c.terms) y) (l : part < length c.terms) (h : Takes c o (argument_type c x) (argument_type c y) (operator_type o))
      (typed : IsSomeAnd (child number (logic (connective c o) (argument (tree_at c) x) (argument (tree_at c) y))) (λ s. type_of s ≡ type_of (tree_at c part))) where
    pub other-first : number ≡ 0 → Takes c o (argument_type c (Some part)) (argument_type c y) (operator_type o)
    other-first e = subst (λ (z : Option ℕ). Takes c o z (argument_type c y) (operator_type o)) (argument-type x part p l (rw e at typed)) h

    pub other-second : number ≡ 1 → Takes c o (argument_type c x) (argument_type c (Some part)) (operator_type o)
    other-second e = subst (λ (z : Option ℕ). Takes c o (argument_type c x) z (operator_type o)) (argument-type y part q l (rw e at typed)) h

-- there are no other children
pub no-child : (number : ℕ) (f x : Tree) (P : Tree → Type 0) → (number ≡ 0 → ⊥) → (number ≡ 1 → ⊥) → IsSomeAnd (child number (app f x)) P → ⊥
no-child zero f x P g h k = g refl
no-child (suc zero) f x P g h k = h refl
no-child (suc (suc n)) f x P g h k = k

pub no-argument : (number : ℕ) (o : Connective) (x y : Tree) (P : Tree → Type 0) → (number ≡ 0 → ⊥) → (number ≡ 1 → ⊥) → IsSomeAnd (child number (logic o x y)) P → ⊥
no-argument zero o x y P g h k = g refl
no-argument (suc zero) o x y P g h k = h refl
no-argument (suc (suc n)) o x y P g h k = k

-- along a path
module _ {c d : Contents} (e : Extends c d) (t below part number : ℕ) (path : List ℕ) (r : Tree) (lt : t < length c.terms) (lb : below < length c.terms) (at : Some (tree_at c below) ≡ child number (tree_at c t)) (m : IsTerm d part (type_number c below) (replaced_at path r (tree_at c below))) where
  pub part-typed : IsSomeAnd (child number (tree_at d t)) (λ s. type_of s ≡ type_of (tree_at d part))
  part-typed =
      let b = old_bank e in
      let k : type_of (tree_at d part) ≡ type_of (tree_at c below) = type_of-term (new_bank e) part m.within ∙ ap (type_at d) m.type_is ∙ type-kept e (type_number c below) (type_number-within b below lb) ∙ sym (type_of-term b below lb) in
      value-and (λ s. type_of s ≡ type_of (tree_at d part)) (child number (tree_at d t)) (tree_at c below) (ap (child number) (tree-kept e t lt) ∙ sym at) (sym k)

  pub whole-made : {f : Contents} {u : ℕ} → IsTerm f u (type_number d t) (put_child number (tree_at d part) (tree_at d t)) → IsTerm f u (type_number c t) (replaced_at (number ∷ path) r (tree_at c t))
  whole-made {f} {u} n =
      let k : put_child number (tree_at d part) (tree_at d t) ≡ put_child number (replaced_at path r (tree_at c below)) (tree_at c t) = rw (m.reads, tree-kept e t lt) refl in
      record {
        within = n.within;
        type_is = n.type_is ∙ type_number-kept e t lt;
        reads = n.reads ∙ k ∙ sym (put-changed number (replaced_at path r) (tree_at c t) (tree_at c below) (sym at));
      }

-- the path goes on from the child
pub next-typed : (number : ℕ) (path : List ℕ) (t a : Tree) (P : Tree → Type 0) → Some a ≡ child number t → IsSomeAnd (subterm (number ∷ path) t) P → IsSomeAnd (subterm path a) P
next-typed number path t a P at h = subst (λ o. IsSomeAnd o P) (ap (option_and_then (subterm path)) (sym at)) h

pub no-next : (number : ℕ) (path : List ℕ) (t : Tree) (P : Tree → Type 0) → None ≡ child number t → IsSomeAnd (subterm (number ∷ path) t) P → ⊥
no-next number path t P at h = subst (λ o. IsSomeAnd o P) (ap (option_and_then (subterm path)) (sym at)) h
