-- The closed term of a normal term, applied to the variables, has the normal term as its normal form.
use Rattle.std.proofs.Common.{ℕ, zero, suc, nat_eq, ◌≡◌, ◌+◌, ◌<◌, ◌≤◌, Bool, true, false, List, slice_get, Some, refl, ◌∙◌, ap, ◌⊎◌, inl, inr, arith}
use Rattle.std.proofs.lemmas.Bool.Decides.{nat_tests}
use Rattle.std.specs.Bool.{if◌then◌else◌}
use Rattle.leo_q0.specs.Terms.{SimpleType, arrow}
use Rattle.leo_terms.specs.Tree.{codomain, truth_type, Tree, variable, bound, symbol, app, lam, logic, absent, Connective, truth, falsity, negation, disjunction, conjunction, implication, equality, universal, existential, choice, type_of, IsBoundAt}
use Rattle.leo_terms.specs.Typing.{IsWellTyped, IsPresent, IsPresentOf, TakesTrees}
use Rattle.leo_terms.specs.Reduction.{IsBase, IsBaseIf, IsForm, IsNormal, IsNeutral}
use Rattle.leo_terms.specs.NormalForm.{type_size, put_within, expanded, eta_long}
use Rattle.leo_terms.proofs.FormLemmas.{type_size-positive, applied-neutral}
use Rattle.leo_terms.proofs.NormalFormLaws.{Fills, lifted-expanded, contract-expanded}
use Rattle.leo_terms.proofs.ReductionLemmas.{bound_opened-below, bound_opened-at}
use Rattle.leo_clause.specs.Typed.{IsOver}
use Rattle.leo_clausify.specs.Choosing.{indexed}
use Rattle.leo_clausify.proofs.Filling.{fills, expanded-base}

-- a variable that becomes an index, or stays
abbrev one_of : ℕ → ℕ → SimpleType → Bool → Tree
one_of k m a c = if c then bound k a else variable m a

pub indexed-type : (n : ℕ) (t : Tree) (k : ℕ) → type_of (indexed n k t) ≡ type_of t
indexed-type n (variable m a) k = by (nat_eq m n)
  where
    by : (c : Bool) → type_of (one_of k m a c) ≡ a
    by true = refl
    by false = refl
indexed-type n (bound i a) k = refl
indexed-type n (symbol s a) k = refl
indexed-type n (app f x) k = ap codomain (indexed-type n f k)
indexed-type n (lam a t) k = ap (arrow a) (indexed-type n t (k + 1))
indexed-type n (logic c x y) k = refl
indexed-type n absent k = refl

pub indexed-present : (n : ℕ) (t : Tree) (k : ℕ) → IsPresent t → IsPresent (indexed n k t)
indexed-present n (variable m a) k h = by (nat_eq m n)
  where
    by : (c : Bool) → IsPresent (one_of k m a c)
    by true = tt
    by false = tt
indexed-present n (bound i a) k h = tt
indexed-present n (symbol s a) k h = tt
indexed-present n (app f x) k h = tt
indexed-present n (lam a t) k h = tt
indexed-present n (logic c x y) k h = tt
indexed-present n absent k h = h

indexed-form_variable : (long : Bool) (k m : ℕ) (a : SimpleType) (c : Bool) → IsBaseIf long a → IsForm long (one_of k m a c)
indexed-form_variable long k m a true h = h
indexed-form_variable long k m a false h = h

pub indexed-form : (n : ℕ) (t : Tree) (long : Bool) (k : ℕ) → IsForm long t → IsForm long (indexed n k t)
indexed-form n (variable m a) long k h = indexed-form_variable long k m a (nat_eq m n) h
indexed-form n (bound i a) long k h = h
indexed-form n (symbol s a) long k h = h
indexed-form n (app f x) long k h = (indexed-form n f false k h.0, indexed-form n x true k h.1, rw (indexed-type n f k) h.2)
indexed-form n (lam a t) true k h = indexed-form n t true (k + 1) h
indexed-form n (lam a t) false k h = h
indexed-form n (logic c x y) long k h = (indexed-form n x true k h.0, indexed-form n y true k h.1, h.2)
indexed-form n absent long k h = h

-- where an index below is bound at its type, it stays so
below-variable : (k j m : ℕ) (a b : SimpleType) (c : Bool) → j < k → IsBoundAt j b (one_of k m a c)
below-variable k j m a b true l = λ e. absurd (omega arith)
below-variable k j m a b false l = tt

indexed-below : (n : ℕ) (t : Tree) (k j : ℕ) (b : SimpleType) → j < k → IsBoundAt j b t → IsBoundAt j b (indexed n k t)
indexed-below n (variable m a) k j b l h = below-variable k j m a b (nat_eq m n) l
indexed-below n (bound i a) k j b l h = h
indexed-below n (symbol s a) k j b l h = tt
indexed-below n (app f x) k j b l h = (indexed-below n f k j b l h.0, indexed-below n x k j b l h.1)
indexed-below n (lam a t) k j b l h = indexed-below n t (k + 1) (j + 1) b (omega arith) h
indexed-below n (logic c x y) k j b l h = (indexed-below n x k j b l h.0, indexed-below n y k j b l h.1)
indexed-below n absent k j b l h = tt

-- logical constants take them too
module _ (n k : ℕ) where
  of-type : (a : SimpleType) (x : Tree) → IsPresentOf a x → IsPresentOf a (indexed n k x)
  of-type a x h = (indexed-present n x k h.0, indexed-type n x k ∙ h.1)

  no-argument : (x : Tree) → x ≡ absent → indexed n k x ≡ absent
  no-argument x e = rw e refl

  indexed-takes : (c : Connective) (x y : Tree) → TakesTrees c x y → TakesTrees c (indexed n k x) (indexed n k y)
  indexed-takes truth x y h = (no-argument x h.0, no-argument y h.1)
  indexed-takes falsity x y h = (no-argument x h.0, no-argument y h.1)
  indexed-takes negation x y h = (of-type truth_type x h.0, no-argument y h.1)
  indexed-takes disjunction x y h = (of-type truth_type x h.0, of-type truth_type y h.1)
  indexed-takes conjunction x y h = (of-type truth_type x h.0, of-type truth_type y h.1)
  indexed-takes implication x y h = (of-type truth_type x h.0, of-type truth_type y h.1)
  indexed-takes (equality a) x y h = (of-type a x h.0, of-type a y h.1)
  indexed-takes (universal a) x y h = (of-type (arrow a truth_type) x h.0, no-argument y h.1)
  indexed-takes (existential a) x y h = (of-type (arrow a truth_type) x h.0, no-argument y h.1)
  indexed-takes (choice a) x y h = (of-type (arrow a truth_type) x h.0, no-argument y h.1)

indexed-typed_variable : (k m : ℕ) (a : SimpleType) (c : Bool) → IsWellTyped (one_of k m a c)
indexed-typed_variable k m a true = tt
indexed-typed_variable k m a false = tt

pub indexed-typed : (n : ℕ) (t : Tree) (k : ℕ) → IsWellTyped t → IsWellTyped (indexed n k t)
indexed-typed n (variable m a) k w = indexed-typed_variable k m a (nat_eq m n)
indexed-typed n (bound i a) k w = tt
indexed-typed n (symbol s a) k w = tt
indexed-typed n (app f x) k w = (indexed-typed n f k w.0, indexed-typed n x k w.1, indexed-present n f k w.2, indexed-present n x k w.3, rw (indexed-type n f k, indexed-type n x k) w.4)
indexed-typed n (lam a t) k w = (indexed-typed n t (k + 1) w.0, indexed-present n t (k + 1) w.1, indexed-below n t (k + 1) 0 a (omega arith) w.2)
indexed-typed n (logic c x y) k w = (indexed-typed n x k w.0, indexed-typed n y k w.1, indexed-takes n k c x y w.2)
indexed-typed n absent k w = tt

module _ (variables : List SimpleType) (n : ℕ) (b : SimpleType) (declared : slice_get variables n ≡ Some b) where
  same-type : (m : ℕ) (a : SimpleType) → slice_get variables m ≡ Some a → nat_eq m n ≡ true → a ≡ b
  same-type m a h e = (let f : m ≡ n = grind (arith, nat_tests) in let g : slice_get variables n ≡ Some a = rw f at h in cc)

  same-number : (m : ℕ) → nat_eq m n ≡ true → m ≡ n
  same-number m e = grind (arith, nat_tests)

  -- the index is bound at its type
  bound-variable : (k m : ℕ) (a : SimpleType) (c : Bool) → (c ≡ true → a ≡ b) → IsBoundAt k b (one_of k m a c)
  bound-variable k m a true h = λ e. h refl
  bound-variable k m a false h = tt

  pub indexed-bound : (t : Tree) (k : ℕ) → IsOver variables k t → IsBoundAt k b (indexed n k t)
  indexed-bound (variable m a) k h = bound-variable k m a (nat_eq m n) (same-type m a h)
  indexed-bound (bound i a) k h = λ e. absurd (omega arith)
  indexed-bound (symbol s a) k h = tt
  indexed-bound (app f x) k h = (indexed-bound f k h.0, indexed-bound x k h.1)
  indexed-bound (lam a t) k h = indexed-bound t (k + 1) h
  indexed-bound (logic c x y) k h = (indexed-bound x k h.0, indexed-bound y k h.1)
  indexed-bound absent k h = tt

  over-variable : (k m : ℕ) (a : SimpleType) (c : Bool) → slice_get variables m ≡ Some a → IsOver variables (k + 1) (one_of k m a c)
  over-variable k m a true h = omega arith
  over-variable k m a false h = h

  pub indexed-over : (t : Tree) (k : ℕ) → IsOver variables k t → IsOver variables (k + 1) (indexed n k t)
  indexed-over (variable m a) k h = over-variable k m a (nat_eq m n) h
  indexed-over (bound i a) k h = (let l : i < k = h in omega arith)
  indexed-over (symbol s a) k h = tt
  indexed-over (app f x) k h = (indexed-over f k h.0, indexed-over x k h.1)
  indexed-over (lam a t) k h = indexed-over t (k + 1) h
  indexed-over (logic c x y) k h = (indexed-over x k h.0, indexed-over y k h.1)
  indexed-over absent k h = tt

  module _ (depth : ℕ) (fills : Fills depth) (small : type_size b ≤ suc depth) where
    abbrev named : ℕ → Tree → Tree
    named k t = put_within (suc depth) k (expanded b (variable n b)) (indexed n k t)

    -- a head that had the index becomes its expansion
    abbrev Named : Bool → ℕ → Tree → Type 0
    Named true k t = named k t ≡ t
    Named false k t = (named k t ≡ t) ⊎ ((named k t ≡ eta_long t) × (type_size (type_of t) ≤ type_size b))

    named-long : (long : Bool) (k : ℕ) (t : Tree) → (long ≡ true → IsBase (type_of t)) → Named false k t → Named long k t
    named-long false k t h r = r
    named-long true k t h (inl e) = e
    named-long true k t h (inr e) = e.0 ∙ expanded-base (type_of t) t (h refl)

    abbrev put_chosen : ℕ → ℕ → SimpleType → Bool → Tree
    put_chosen k m a c = put_within (suc depth) k (expanded b (variable n b)) (one_of k m a c)

    named-variable_by : (k m : ℕ) (a : SimpleType) (c : Bool) → (c ≡ true → (m ≡ n) × (a ≡ b)) → (put_chosen k m a c ≡ variable m a) ⊎ ((put_chosen k m a c ≡ eta_long (variable m a)) × (type_size a ≤ type_size b))
    named-variable_by k m a false h = inl refl
    named-variable_by k m a true h =
        let p = h refl in
        let s : Tree = expanded b (variable n b) in
        let l : type_size a ≡ type_size b = ap type_size p.1 in
        inr (bound_opened-at k s k a refl ∙ lifted-expanded b (variable n b) 0 k ∙ rw (p.0, p.1) refl, omega arith)

    named-app : (k : ℕ) (f x : Tree) → IsNeutral f → IsNormal x → IsWellTyped (app f x) → Named false k f → named k x ≡ x → Named false k (app f x)
    named-app k f x h m w (inl e) g = inl (rw (e, g) (applied-neutral (put_within depth 0) f x h))
    named-app k f x h m w (inr e) g =
        let t : type_of f ≡ arrow (type_of x) (codomain (type_of f)) = w.4 in
        let z : type_size (type_of f) ≡ type_size (arrow (type_of x) (codomain (type_of f))) = ap type_size t in
        let l = e.1 in
        let v : eta_long f ≡ expanded (arrow (type_of x) (codomain (type_of f))) f = ap (λ (a : SimpleType). expanded a f) t in
        let o : named k f ≡ expanded (arrow (type_of x) (codomain (type_of f))) f = e.0 ∙ v in
        inr (rw (o, g) (contract-expanded depth fills (type_of x) (codomain (type_of f)) f x (omega arith) h m w.1 refl), omega arith)

    named-form : (long : Bool) (k : ℕ) (t : Tree) → IsForm long t → IsWellTyped t → IsOver variables k t → Named long k t
    named-form long k (variable m a) h w o = named-long long k (variable m a) (λ e. rw e at h) (named-variable_by k m a (nat_eq m n) (λ e. (same-number m e, same-type m a o e)))
    named-form long k (bound i a) h w o = named-long long k (bound i a) (λ e. rw e at h) (inl (bound_opened-below k (expanded b (variable n b)) i a o))
    named-form long k (symbol s a) h w o = named-long long k (symbol s a) (λ e. rw e at h) (inl refl)
    named-form long k (app f x) h w o = named-long long k (app f x) (λ e. rw e at h.2) (named-app k f x h.0 h.1 w (named-form false k f h.0 w.0 o.0) (named-form true k x h.1 w.1 o.1))
    named-form true k (lam a t) h w o = ap (lam a) (named-form true (k + 1) t h w.0 o)
    named-form false k (lam a t) h w o = absurd h
    named-form long k (logic c x y) h w o = named-long long k (logic c x y) (λ e. rw e at h.2) (inl (rw (named-form true k x h.0 w.0 o.0, named-form true k y h.1 w.1 o.1) refl))
    named-form long k absent h w o = named-long long k absent (λ e. tt) (inl refl)

  -- the beta step that puts the expanded variable back
  pub put-back : (depth : ℕ) → type_size b ≡ depth → (t : Tree) → IsNormal t → IsWellTyped t → IsOver variables 0 t → put_within depth 0 (expanded b (variable n b)) (indexed n 0 t) ≡ t
  put-back zero e t h w o = absurd (let p = type_size-positive b in omega arith)
  put-back (suc depth) e t h w o = named-form depth (fills depth) (omega arith) true 0 t h w o
