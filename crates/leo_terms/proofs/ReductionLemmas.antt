-- What reduction keeps.
use Rattle.std.proofs.Common.{ℕ, ◌≡◌, ◌+◌, ◌-◌, ◌<◌, ◌≤◌, Bool, true, false, nat_lt, refl, ◌⊎◌, inl, inr, arith}
use Rattle.std.proofs.lemmas.Bool.Decides.{nat_tests}
use Rattle.std.specs.Bool.{if◌then◌else◌}
use Rattle.leo_q0.specs.Terms.{SimpleType}
use Rattle.leo_terms.specs.Tree.{Tree, variable, bound, symbol, app, lam, logic, absent, IsBoundAt, lifted, opened, bound_opened}
use Rattle.leo_terms.specs.Reduction.{Reduces, nothing, andthen, in_app, in_lam, in_logic, beta, eta, IsBaseIf, IsForm}
use Rattle.leo_terms.proofs.TreeLemmas.{type_of-lifted}

-- an index in the gap that lifting leaves does not stand in the lifted term
IsBoundAt-gap_bound : (i j from by : ℕ) (a b : SimpleType) → from ≤ j → j < from + by → (l : Bool) → l ≡ nat_lt i from → IsBoundAt j a (if l then bound i b else bound (i + by) b)
IsBoundAt-gap_bound i j from by a b p q true e = λ h. absurd (let l : i < from = grind (arith, nat_tests) in omega arith)
IsBoundAt-gap_bound i j from by a b p q false e = λ h. absurd (let l : from ≤ i = grind (arith, nat_tests) in omega arith)

pub IsBoundAt-gap : (t : Tree) (j from by : ℕ) (a : SimpleType) → from ≤ j → j < from + by → IsBoundAt j a (lifted from by t)
IsBoundAt-gap (variable n b) j from by a p q = tt
IsBoundAt-gap (bound i b) j from by a p q = IsBoundAt-gap_bound i j from by a b p q (nat_lt i from) refl
IsBoundAt-gap (symbol s b) j from by a p q = tt
IsBoundAt-gap (app f x) j from by a p q = (IsBoundAt-gap f j from by a p q, IsBoundAt-gap x j from by a p q)
IsBoundAt-gap (lam b t) j from by a p q = IsBoundAt-gap t (j + 1) (from + 1) by a (omega arith) (omega arith)
IsBoundAt-gap (logic c x y) j from by a p q = (IsBoundAt-gap x j from by a p q, IsBoundAt-gap y j from by a p q)
IsBoundAt-gap absent j from by a p q = tt

-- an index that is raised keeps its type
IsBoundAt-raised_bound : (i j k from by : ℕ) (a b : SimpleType) → from ≤ j → k ≡ j + by → (i ≡ j → b ≡ a) → (l : Bool) → l ≡ nat_lt i from → IsBoundAt k a (if l then bound i b else bound (i + by) b)
IsBoundAt-raised_bound i j k from by a b p q h true e = λ g. absurd (let l : i < from = grind (arith, nat_tests) in omega arith)
IsBoundAt-raised_bound i j k from by a b p q h false e = λ g. h (omega arith)

pub IsBoundAt-raised : (t : Tree) (j k from by : ℕ) (a : SimpleType) → from ≤ j → k ≡ j + by → IsBoundAt j a t → IsBoundAt k a (lifted from by t)
IsBoundAt-raised (variable n b) j k from by a p q h = tt
IsBoundAt-raised (bound i b) j k from by a p q h = IsBoundAt-raised_bound i j k from by a b p q h (nat_lt i from) refl
IsBoundAt-raised (symbol s b) j k from by a p q h = tt
IsBoundAt-raised (app f x) j k from by a p q h = (IsBoundAt-raised f j k from by a p q h.0, IsBoundAt-raised x j k from by a p q h.1)
IsBoundAt-raised (lam b t) j k from by a p q h = IsBoundAt-raised t (j + 1) (k + 1) (from + 1) by a (omega arith) (omega arith) h
IsBoundAt-raised (logic c x y) j k from by a p q h = (IsBoundAt-raised x j k from by a p q h.0, IsBoundAt-raised y j k from by a p q h.1)
IsBoundAt-raised absent j k from by a p q h = tt

-- which way an index goes in `opened`
pub bound_opened-below : (k : ℕ) (s : Tree) (i : ℕ) (a : SimpleType) → i < k → bound_opened k s i a ≡ bound i a
bound_opened-below k s i a h = grind (arith, nat_tests)

pub bound_opened-at : (k : ℕ) (s : Tree) (i : ℕ) (a : SimpleType) → i ≡ k → bound_opened k s i a ≡ lifted 0 k s
bound_opened-at k s i a h = grind (arith, nat_tests)

pub bound_opened-above : (k : ℕ) (s : Tree) (i : ℕ) (a : SimpleType) → k < i → bound_opened k s i a ≡ bound (i - 1) a
bound_opened-above k s i a h = grind (arith, nat_tests)

pub order : (i k : ℕ) → (i < k) ⊎ ((i ≡ k) ⊎ (k < i))
order i k = grind arith

-- opening keeps the types of the indices below
IsBoundAt-opened_bound : (k j i : ℕ) (s : Tree) (a b : SimpleType) → j < k → (i ≡ j → b ≡ a) → IsBoundAt j a (bound_opened k s i b)
IsBoundAt-opened_bound k j i s a b p h =
    elim (order i k) [
      | inl l ↦ rw (bound_opened-below k s i b l) h
      | inr r ↦ elim r [
        | inl e ↦ rw (bound_opened-at k s i b e) (IsBoundAt-gap s j 0 k a (omega arith) (omega arith))
        | inr g ↦ rw (bound_opened-above k s i b g) (λ e. absurd (omega arith))
      ]
    ]

pub IsBoundAt-opened : (t s : Tree) (k j : ℕ) (a : SimpleType) → j < k → IsBoundAt j a t → IsBoundAt j a (opened k s t)
IsBoundAt-opened (variable n b) s k j a p h = tt
IsBoundAt-opened (bound i b) s k j a p h = IsBoundAt-opened_bound k j i s a b p h
IsBoundAt-opened (symbol n b) s k j a p h = tt
IsBoundAt-opened (app f x) s k j a p h = (IsBoundAt-opened f s k j a p h.0, IsBoundAt-opened x s k j a p h.1)
IsBoundAt-opened (lam b t) s k j a p h = IsBoundAt-opened t s (k + 1) (j + 1) a (omega arith) h
IsBoundAt-opened (logic c x y) s k j a p h = (IsBoundAt-opened x s k j a p h.0, IsBoundAt-opened y s k j a p h.1)
IsBoundAt-opened absent s k j a p h = tt

-- and those of the indices above, which come from the term and from what is put in
IsBoundAt-opened_bound_above : (k j l i : ℕ) (s : Tree) (a b : SimpleType) → j ≡ l + k → (i ≡ j + 1 → b ≡ a) → IsBoundAt l a s → IsBoundAt j a (bound_opened k s i b)
IsBoundAt-opened_bound_above k j l i s a b p h g =
    elim (order i k) [
      | inl q ↦ rw (bound_opened-below k s i b q) (λ e. absurd (omega arith))
      | inr r ↦ elim r [
        | inl e ↦ rw (bound_opened-at k s i b e) (IsBoundAt-raised s l j 0 k a (omega arith) p g)
        | inr q ↦ rw (bound_opened-above k s i b q) (λ e. h (omega arith))
      ]
    ]

pub IsBoundAt-opened_above : (t s : Tree) (k j l : ℕ) (a : SimpleType) → j ≡ l + k → IsBoundAt (j + 1) a t → IsBoundAt l a s → IsBoundAt j a (opened k s t)
IsBoundAt-opened_above (variable n b) s k j l a p h g = tt
IsBoundAt-opened_above (bound i b) s k j l a p h g = IsBoundAt-opened_bound_above k j l i s a b p h g
IsBoundAt-opened_above (symbol n b) s k j l a p h g = tt
IsBoundAt-opened_above (app f x) s k j l a p h g = (IsBoundAt-opened_above f s k j l a p h.0 g, IsBoundAt-opened_above x s k j l a p h.1 g)
IsBoundAt-opened_above (lam b t) s k j l a p h g = IsBoundAt-opened_above t s (k + 1) (j + 1) l a (omega arith) h g
IsBoundAt-opened_above (logic c x y) s k j l a p h g = (IsBoundAt-opened_above x s k j l a p h.0 g, IsBoundAt-opened_above y s k j l a p h.1 g)
IsBoundAt-opened_above absent s k j l a p h g = tt

-- reduction brings no index in
pub IsBoundAt-reduces : (s t : Tree) → Reduces s t → (j : ℕ) (a : SimpleType) → IsBoundAt j a s → IsBoundAt j a t
IsBoundAt-reduces _ _ (nothing t) j a h = h
IsBoundAt-reduces _ _ (andthen r s t p q) j a h = IsBoundAt-reduces s t q j a (IsBoundAt-reduces r s p j a h)
IsBoundAt-reduces _ _ (in_app f g x y p q) j a h = (IsBoundAt-reduces f g p j a h.0, IsBoundAt-reduces x y q j a h.1)
IsBoundAt-reduces _ _ (in_lam b s t p) j a h = IsBoundAt-reduces s t p (j + 1) a h
IsBoundAt-reduces _ _ (in_logic c s t x y p q) j a h = (IsBoundAt-reduces s t p j a h.0, IsBoundAt-reduces x y q j a h.1)
IsBoundAt-reduces _ _ (beta b t x p q) j a h = IsBoundAt-opened_above t x 0 j j a (omega arith) h.0 h.1
IsBoundAt-reduces _ _ (eta b c t p) j a h = (IsBoundAt-raised t j (j + 1) 0 1 a (omega arith) refl h, λ e. absurd (omega arith))

-- lifting keeps normal forms
IsForm-lifted_bound : (long : Bool) (i from by : ℕ) (a : SimpleType) → IsBaseIf long a → (l : Bool) → IsForm long (if l then bound i a else bound (i + by) a)
IsForm-lifted_bound long i from by a h true = h
IsForm-lifted_bound long i from by a h false = h

pub IsForm-lifted : (t : Tree) (long : Bool) (from by : ℕ) → IsForm long t → IsForm long (lifted from by t)
IsForm-lifted (variable n b) long from by h = h
IsForm-lifted (bound i b) long from by h = IsForm-lifted_bound long i from by b h (nat_lt i from)
IsForm-lifted (symbol s b) long from by h = h
IsForm-lifted (app f x) long from by h = (IsForm-lifted f false from by h.0, IsForm-lifted x true from by h.1, rw (type_of-lifted f from by) h.2)
IsForm-lifted (lam b t) true from by h = IsForm-lifted t true (from + 1) by h
IsForm-lifted (lam b t) false from by h = h
IsForm-lifted (logic c x y) long from by h = (IsForm-lifted x true from by h.0, IsForm-lifted y true from by h.1, h.2)
IsForm-lifted absent long from by h = tt
