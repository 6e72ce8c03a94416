-- Lifting of lifted terms, and of terms with others put in.
use Rattle.std.proofs.Common.{ℕ, zero, suc, ◌≡◌, ◌+◌, ◌-◌, ◌<◌, ◌≤◌, Bool, true, false, nat_lt, refl, sym, ◌∙◌, ap, ◌⊎◌, inl, inr, arith}
use Rattle.std.specs.Bool.{if◌then◌else◌}
use Rattle.leo_q0.specs.Terms.{SimpleType}
use Rattle.leo_terms.specs.Tree.{Tree, variable, bound, symbol, app, lam, logic, absent, lifted, opened, bound_opened}
use Rattle.leo_terms.specs.NormalForm.{applied, put_by, put_within}
use Rattle.leo_terms.proofs.TreeLemmas.{lifted-below, lifted-above}
use Rattle.leo_terms.proofs.ReductionLemmas.{bound_opened-below, bound_opened-at, bound_opened-above, order}

below_or : (i k : ℕ) → (i < k) ⊎ (k ≤ i)
below_or i k = grind arith

-- an index that is raised twice in one gap is raised by the sum
lifted-more_bound : (i m p k by : ℕ) (a : SimpleType) → m ≤ p → p ≤ m + k → lifted p by (lifted m k (bound i a)) ≡ lifted m (k + by) (bound i a)
lifted-more_bound i m p k by a h g =
    elim (below_or i m) [
      | inl l ↦ rw (lifted-below i m k a l, lifted-below i m (k + by) a l) (lifted-below i p by a (omega arith))
      | inr l ↦ rw (lifted-above i m k a l, lifted-above i m (k + by) a l) (lifted-above (i + k) p by a (omega arith) ∙ ap (λ j. bound j a) (omega arith))
    ]

pub lifted-more : (t : Tree) (m p k by : ℕ) → m ≤ p → p ≤ m + k → lifted p by (lifted m k t) ≡ lifted m (k + by) t
lifted-more (variable n a) m p k by h g = refl
lifted-more (bound i a) m p k by h g = lifted-more_bound i m p k by a h g
lifted-more (symbol n a) m p k by h g = refl
lifted-more (app f x) m p k by h g = rw (lifted-more f m p k by h g, lifted-more x m p k by h g) refl
lifted-more (lam a t) m p k by h g = ap (lam a) (lifted-more t (m + 1) (p + 1) k by (omega arith) (omega arith))
lifted-more (logic c x y) m p k by h g = rw (lifted-more x m p k by h g, lifted-more y m p k by h g) refl
lifted-more absent m p k by h g = refl

-- indices above a gap are raised before or after it is made
lifted-swap_bound : (i n k p q by : ℕ) (a : SimpleType) → p ≡ q + k → n ≤ q → lifted p by (lifted n k (bound i a)) ≡ lifted n k (lifted q by (bound i a))
lifted-swap_bound i n k p q by a h g =
    elim (below_or i q) [
      | inl l ↦ elim (below_or i n) [
        | inl b ↦ rw (lifted-below i n k a b, lifted-below i q by a l) (lifted-below i p by a (omega arith) ∙ sym (lifted-below i n k a b))
        | inr b ↦ rw (lifted-above i n k a b, lifted-below i q by a l) (lifted-below (i + k) p by a (omega arith) ∙ sym (lifted-above i n k a b))
      ]
      | inr l ↦ rw (lifted-above i n k a (omega arith), lifted-above i q by a l) (lifted-above (i + k) p by a (omega arith) ∙ ap (λ j. bound j a) (omega arith) ∙ sym (lifted-above (i + by) n k a (omega arith)))
    ]

pub lifted-swap : (t : Tree) (n k p q by : ℕ) → p ≡ q + k → n ≤ q → lifted p by (lifted n k t) ≡ lifted n k (lifted q by t)
lifted-swap (variable m a) n k p q by h g = refl
lifted-swap (bound i a) n k p q by h g = lifted-swap_bound i n k p q by a h g
lifted-swap (symbol m a) n k p q by h g = refl
lifted-swap (app f x) n k p q by h g = rw (lifted-swap f n k p q by h g, lifted-swap x n k p q by h g) refl
lifted-swap (lam a t) n k p q by h g = ap (lam a) (lifted-swap t (n + 1) k (p + 1) (q + 1) by (omega arith) (omega arith))
lifted-swap (logic c x y) n k p q by h g = rw (lifted-swap x n k p q by h g, lifted-swap y n k p q by h g) refl
lifted-swap absent n k p q by h g = refl

pub lifted-none : (t : Tree) (m : ℕ) → lifted m 0 t ≡ t
lifted-none (variable n a) m = refl
lifted-none (bound i a) m =
    elim (below_or i m) [
      | inl l ↦ lifted-below i m 0 a l
      | inr l ↦ lifted-above i m 0 a l ∙ ap (λ j. bound j a) (omega arith)
    ]
lifted-none (symbol n a) m = refl
lifted-none (app f x) m = rw (lifted-none f m, lifted-none x m) refl
lifted-none (lam a t) m = ap (lam a) (lifted-none t (m + 1))
lifted-none (logic c x y) m = rw (lifted-none x m, lifted-none y m) refl
lifted-none absent m = refl

-- lifting of an index that something is put in for, from above it
opened-lifted_bound : (i k m p by : ℕ) (a : SimpleType) (x : Tree) → p ≡ k + m → lifted p by (bound_opened k x i a) ≡ opened k (lifted m by x) (lifted (p + 1) by (bound i a))
opened-lifted_bound i k m p by a x h =
    elim (order i k) [
      | inl l ↦ rw (bound_opened-below k x i a l, lifted-below i (p + 1) by a (omega arith)) (lifted-below i p by a (omega arith) ∙ sym (bound_opened-below k (lifted m by x) i a l))
      | inr r ↦ elim r [
        | inl e ↦ rw (bound_opened-at k x i a e, lifted-below i (p + 1) by a (omega arith)) (lifted-swap x 0 k p m by (omega arith) (omega arith) ∙ sym (bound_opened-at k (lifted m by x) i a e))
        | inr g ↦ elim (below_or i (p + 1)) [
          | inl l ↦ rw (bound_opened-above k x i a g, lifted-below i (p + 1) by a l) (lifted-below (i - 1) p by a (omega arith) ∙ sym (bound_opened-above k (lifted m by x) i a g))
          | inr l ↦ rw (bound_opened-above k x i a g, lifted-above i (p + 1) by a l) (lifted-above (i - 1) p by a (omega arith) ∙ ap (λ j. bound j a) (omega arith) ∙ sym (bound_opened-above k (lifted m by x) (i + by) a (omega arith)))
        ]
      ]
    ]

opened-lifted : (t x : Tree) (k m p by : ℕ) → p ≡ k + m → lifted p by (opened k x t) ≡ opened k (lifted m by x) (lifted (p + 1) by t)
opened-lifted (variable n a) x k m p by h = refl
opened-lifted (bound i a) x k m p by h = opened-lifted_bound i k m p by a x h
opened-lifted (symbol n a) x k m p by h = refl
opened-lifted (app f y) x k m p by h = rw (opened-lifted f x k m p by h, opened-lifted y x k m p by h) refl
opened-lifted (lam a t) x k m p by h = ap (lam a) (opened-lifted t x (k + 1) m (p + 1) by (omega arith))
opened-lifted (logic c y z) x k m p by h = rw (opened-lifted y x k m p by h, opened-lifted z x k m p by h) refl
opened-lifted absent x k m p by h = refl

-- a contraction that can be lifted before or after
abbrev pub Lifts : (Tree → Tree → Tree) → ℕ → Type 0
Lifts contract by = (x t : Tree) (m : ℕ) → lifted m by (contract x t) ≡ contract (lifted m by x) (lifted (m + 1) by t)

applied-index : (contract : Tree → Tree → Tree) (l : Bool) (i j : ℕ) (a : SimpleType) (x : Tree) → app (if l then bound i a else bound j a) x ≡ applied contract (if l then bound i a else bound j a) x
applied-index contract true i j a x = refl
applied-index contract false i j a x = refl

applied-lifted : (contract : Tree → Tree → Tree) (by : ℕ) → Lifts contract by → (f x : Tree) (p : ℕ) → lifted p by (applied contract f x) ≡ applied contract (lifted p by f) (lifted p by x)
applied-lifted contract by c (variable n a) x p = refl
applied-lifted contract by c (bound i a) x p = applied-index contract (nat_lt i p) i (i + by) a (lifted p by x)
applied-lifted contract by c (symbol n a) x p = refl
applied-lifted contract by c (app f y) x p = refl
applied-lifted contract by c (lam a t) x p = c x t p
applied-lifted contract by c (logic d y z) x p = refl
applied-lifted contract by c absent x p = refl

put_by-lifted : (contract : Tree → Tree → Tree) (by : ℕ) → Lifts contract by → (t x : Tree) (k m p : ℕ) → p ≡ k + m → lifted p by (put_by contract k x t) ≡ put_by contract k (lifted m by x) (lifted (p + 1) by t)
put_by-lifted contract by c (variable n a) x k m p h = refl
put_by-lifted contract by c (bound i a) x k m p h = opened-lifted_bound i k m p by a x h ∙ index-put contract k (lifted m by x) (nat_lt i (p + 1)) i (i + by) a
  where
    index-put : (contract : Tree → Tree → Tree) (k : ℕ) (s : Tree) (l : Bool) (i j : ℕ) (a : SimpleType) → opened k s (if l then bound i a else bound j a) ≡ put_by contract k s (if l then bound i a else bound j a)
    index-put contract k s true i j a = refl
    index-put contract k s false i j a = refl
put_by-lifted contract by c (symbol n a) x k m p h = refl
put_by-lifted contract by c (app f y) x k m p h =
    applied-lifted contract by c (put_by contract k x f) (put_by contract k x y) p ∙ rw (put_by-lifted contract by c f x k m p h, put_by-lifted contract by c y x k m p h) refl
put_by-lifted contract by c (lam a t) x k m p h = ap (lam a) (put_by-lifted contract by c t x (k + 1) m (p + 1) (omega arith))
put_by-lifted contract by c (logic d y z) x k m p h = rw (put_by-lifted contract by c y x k m p h, put_by-lifted contract by c z x k m p h) refl
put_by-lifted contract by c absent x k m p h = refl

pub put_within-lifts : (depth by : ℕ) → Lifts (put_within depth 0) by
put_within-lifts zero by x t m = opened-lifted t x 0 m m by (omega arith)
put_within-lifts (suc depth) by x t m = put_by-lifted (put_within depth 0) by (put_within-lifts depth by) t x 0 m m (omega arith)

-- putting in below a gap, where the index is above it
put_by-raised_bound : (contract : Tree → Tree → Tree) (i k from by : ℕ) (a : SimpleType) (s : Tree) → from ≤ k → put_by contract (k + by) s (lifted from by (bound i a)) ≡ lifted from by (bound_opened k s i a)
put_by-raised_bound contract i k from by a s h =
    elim (order i k) [
      | inl l ↦ rw (bound_opened-below k s i a l) (elim (below_or i from) [
        | inl b ↦ rw (lifted-below i from by a b) (bound_opened-below (k + by) s i a (omega arith))
        | inr b ↦ rw (lifted-above i from by a b) (bound_opened-below (k + by) s (i + by) a (omega arith))
      ])
      | inr r ↦ elim r [
        | inl e ↦ rw (bound_opened-at k s i a e, lifted-above i from by a (omega arith)) (bound_opened-at (k + by) s (i + by) a (omega arith) ∙ sym (lifted-more s 0 from k by (omega arith) (omega arith)))
        | inr g ↦ rw (bound_opened-above k s i a g, lifted-above i from by a (omega arith)) (bound_opened-above (k + by) s (i + by) a (omega arith) ∙ ap (λ j. bound j a) (omega arith) ∙ sym (lifted-above (i - 1) from by a (omega arith)))
      ]
    ]

pub put_by-raised : (contract : Tree → Tree → Tree) (by : ℕ) → Lifts contract by → (t s : Tree) (k j from : ℕ) → j ≡ k + by → from ≤ k → put_by contract j s (lifted from by t) ≡ lifted from by (put_by contract k s t)
put_by-raised contract by c (variable n a) s k j from e h = refl
put_by-raised contract by c (bound i a) s k j from e h = rw e (put_by-raised_bound contract i k from by a s h)
put_by-raised contract by c (symbol n a) s k j from e h = refl
put_by-raised contract by c (app f x) s k j from e h =
    rw (put_by-raised contract by c f s k j from e h, put_by-raised contract by c x s k j from e h) (sym (applied-lifted contract by c (put_by contract k s f) (put_by contract k s x) from))
put_by-raised contract by c (lam a t) s k j from e h = ap (lam a) (put_by-raised contract by c t s (k + 1) (j + 1) (from + 1) (omega arith) (omega arith))
put_by-raised contract by c (logic d x y) s k j from e h = rw (put_by-raised contract by c x s k j from e h, put_by-raised contract by c y s k j from e h) refl
put_by-raised contract by c absent s k j from e h = refl
