-- Terms over variables: what lifting, opening, reduction and putting terms in for variables keep.
use Rattle.std.proofs.Common.{ℕ, ◌≡◌, ◌+◌, ◌<◌, ◌≤◌, Bool, true, false, nat_lt, List, ◌++◌, refl, inl, inr, arith}
use Rattle.std.specs.Bool.{if◌then◌else◌}
use Rattle.leo_q0.specs.Terms.{SimpleType}
use Rattle.leo_terms.specs.Tree.{Tree, variable, bound, symbol, app, lam, logic, absent, lifted, opened, bound_opened, substituted, IsGiven, IsBoundAt}
use Rattle.leo_terms.specs.Reduction.{Reduces, nothing, andthen, in_app, in_lam, in_logic, beta, eta}
use Rattle.leo_terms.specs.Facts.{loose_range}
use Rattle.leo_terms.proofs.ReductionLemmas.{bound_opened-below, bound_opened-at, bound_opened-above, order}
use Rattle.leo_terms.proofs.ListLemmas.{slice_get-append}
use Rattle.leo_terms.proofs.CallerLemmas.{lifted-closed, bound-closed}
use Rattle.leo_clause.specs.Typed.{IsOver}
use Rattle.leo_unify.specs.Contexts.{AreGivenOver}

module _ (vs : List SimpleType) where
  over_bound : (i d e from k : ℕ) (b : SimpleType) → e ≡ d + k → i < d → (l : Bool) → IsOver vs e (if l then bound i b else bound (i + k) b)
  over_bound i d e from k b f h true = omega arith
  over_bound i d e from k b f h false = omega arith

  pub over-lifted : (t : Tree) (d e from k : ℕ) → e ≡ d + k → IsOver vs d t → IsOver vs e (lifted from k t)
  over-lifted (variable n b) d e from k f h = h
  over-lifted (bound i b) d e from k f h = over_bound i d e from k b f h (nat_lt i from)
  over-lifted (symbol s b) d e from k f h = tt
  over-lifted (app g x) d e from k f h = (over-lifted g d e from k f h.0, over-lifted x d e from k f h.1)
  over-lifted (lam b t) d e from k f h = over-lifted t (d + 1) (e + 1) (from + 1) k (omega arith) h
  over-lifted (logic c x y) d e from k f h = (over-lifted x d e from k f h.0, over-lifted y d e from k f h.1)
  over-lifted absent d e from k f h = tt

  over_opened : (i d m n e : ℕ) (b : SimpleType) (x : Tree) → n ≡ d + 1 + m → e ≡ d + m → IsOver vs d x → i < n → IsOver vs e (bound_opened m x i b)
  over_opened i d m n e b x en ee hx h =
      elim (order i m) [
        | inl l ↦ rw (bound_opened-below m x i b l) (omega arith)
        | inr r ↦ elim r [
          | inl q ↦ rw (bound_opened-at m x i b q) (over-lifted x d e 0 m ee hx)
          | inr g ↦ rw (bound_opened-above m x i b g) (omega arith)
        ]
      ]

  over-opened : (t : Tree) (d m n e : ℕ) (x : Tree) → n ≡ d + 1 + m → e ≡ d + m → IsOver vs d x → IsOver vs n t → IsOver vs e (opened m x t)
  over-opened (variable c b) d m n e x en ee hx h = h
  over-opened (bound i b) d m n e x en ee hx h = over_opened i d m n e b x en ee hx h
  over-opened (symbol s b) d m n e x en ee hx h = tt
  over-opened (app g y) d m n e x en ee hx h = (over-opened g d m n e x en ee hx h.0, over-opened y d m n e x en ee hx h.1)
  over-opened (lam b t) d m n e x en ee hx h = over-opened t d (m + 1) (n + 1) (e + 1) x (omega arith) (omega arith) hx h
  over-opened (logic c y z) d m n e x en ee hx h = (over-opened y d m n e x en ee hx h.0, over-opened z d m n e x en ee hx h.1)
  over-opened absent d m n e x en ee hx h = tt

  pub over-reduces : (s t : Tree) → Reduces s t → (d : ℕ) → IsOver vs d s → IsOver vs d t
  over-reduces _ _ (nothing t) d h = h
  over-reduces _ _ (andthen r s t p q) d h = over-reduces s t q d (over-reduces r s p d h)
  over-reduces _ _ (in_app f g x y p q) d h = (over-reduces f g p d h.0, over-reduces x y q d h.1)
  over-reduces _ _ (in_lam a s t p) d h = over-reduces s t p (d + 1) h
  over-reduces _ _ (in_logic c s t x y p q) d h = (over-reduces s t p d h.0, over-reduces x y q d h.1)
  over-reduces _ _ (beta a t x p q) d h = over-opened t d 0 (d + 1) d x (omega arith) (omega arith) h.1 h.0
  over-reduces _ _ (eta a b t p) d h = (over-lifted t d (d + 1) 0 1 refl h, omega arith)

  -- under more lambdas
  pub over-more : (t : Tree) (d e : ℕ) → d ≤ e → IsOver vs d t → IsOver vs e t
  over-more (variable n b) d e l h = h
  over-more (bound i b) d e l h = omega arith
  over-more (symbol s b) d e l h = tt
  over-more (app g x) d e l h = (over-more g d e l h.0, over-more x d e l h.1)
  over-more (lam b t) d e l h = over-more t (d + 1) (e + 1) (omega arith) h
  over-more (logic c x y) d e l h = (over-more x d e l h.0, over-more y d e l h.1)
  over-more absent d e l h = tt

  -- over more variables
  pub over-append : (ws : List SimpleType) (t : Tree) (d : ℕ) → IsOver vs d t → IsOver (vs ++ ws) d t
  over-append ws (variable n b) d h = slice_get-append vs ws n b h
  over-append ws (bound i b) d h = h
  over-append ws (symbol s b) d h = tt
  over-append ws (app g x) d h = (over-append ws g d h.0, over-append ws x d h.1)
  over-append ws (lam b t) d h = over-append ws t (d + 1) h
  over-append ws (logic c x y) d h = (over-append ws x d h.0, over-append ws y d h.1)
  over-append ws absent d h = tt

  pub over-range : (t : Tree) (d : ℕ) → IsOver vs d t → loose_range t ≤ d
  over-range (variable n b) d h = omega arith
  over-range (bound i b) d h = omega arith
  over-range (symbol s b) d h = omega arith
  over-range (app g x) d h = let p = over-range g d h.0 in let q = over-range x d h.1 in omega arith
  over-range (lam b t) d h = let p = over-range t (d + 1) h in omega arith
  over-range (logic c x y) d h = let p = over-range x d h.0 in let q = over-range y d h.1 in omega arith
  over-range absent d h = omega arith

  pub over-lifted_closed : (t : Tree) (k : ℕ) → IsOver vs 0 t → lifted 0 k t ≡ t
  over-lifted_closed t k h = lifted-closed t 0 k (over-range t 0 h)

-- putting terms in for variables
module _ (vs ws : List SimpleType) (given : List Tree) (g : AreGivenOver vs ws given) where
  pub over-substituted : (t : Tree) (d k : ℕ) → IsOver vs d t → IsOver ws d (substituted given k t)
  over-substituted (variable n b) d k h =
      let w = g n b h in
      rw (w.1, over-lifted_closed ws w.0 k w.3) (over-more ws w.0 0 d (omega arith) w.3)
  over-substituted (bound i b) d k h = h
  over-substituted (symbol s b) d k h = tt
  over-substituted (app f x) d k h = (over-substituted f d k h.0, over-substituted x d k h.1)
  over-substituted (lam b t) d k h = over-substituted t (d + 1) (k + 1) h
  over-substituted (logic c x y) d k h = (over-substituted x d k h.0, over-substituted y d k h.1)
  over-substituted absent d k h = tt

  pub bound-substituted : (t : Tree) (d k j : ℕ) (a : SimpleType) → IsOver vs d t → IsBoundAt j a t → IsBoundAt j a (substituted given k t)
  bound-substituted (variable n b) d k j a h p =
      let w = g n b h in
      let l = over-range ws w.0 0 w.3 in
      rw (w.1, over-lifted_closed ws w.0 k w.3) (bound-closed w.0 j a (omega arith))
  bound-substituted (bound i b) d k j a h p = p
  bound-substituted (symbol s b) d k j a h p = tt
  bound-substituted (app f x) d k j a h p = (bound-substituted f d k j a h.0 p.0, bound-substituted x d k j a h.1 p.1)
  bound-substituted (lam b t) d k j a h p = bound-substituted t (d + 1) (k + 1) (j + 1) a h p
  bound-substituted (logic c x y) d k j a h p = (bound-substituted x d k j a h.0 p.0, bound-substituted y d k j a h.1 p.1)
  bound-substituted absent d k j a h p = tt

  pub given-over : (t : Tree) (d : ℕ) → IsOver vs d t → IsGiven given t
  given-over (variable n b) d h = (let w = g n b h in rw w.1 w.2)
  given-over (bound i b) d h = tt
  given-over (symbol s b) d h = tt
  given-over (app f x) d h = (given-over f d h.0, given-over x d h.1)
  given-over (lam b t) d h = given-over t (d + 1) h
  given-over (logic c x y) d h = (given-over x d h.0, given-over y d h.1)
  given-over absent d h = tt
