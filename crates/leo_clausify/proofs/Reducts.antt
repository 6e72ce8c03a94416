-- Terms over variables stay such as they are reduced, and normal forms are their own.
use Rattle.std.proofs.Common.{ℕ, ◌≡◌, ◌+◌, ◌<◌, ◌≤◌, List, refl, arith, ◌⊎◌, inl, inr}
use Rattle.leo_q0.specs.Terms.{SimpleType}
use Rattle.leo_terms.specs.Tree.{Tree, variable, bound, symbol, app, lam, logic, absent, type_of, lifted, opened, bound_opened}
use Rattle.leo_terms.specs.NormalForm.{normal_form}
use Rattle.leo_terms.specs.Reduction.{Reduces, nothing, andthen, in_app, in_lam, in_logic, beta, eta}
use Rattle.leo_terms.specs.Typing.{IsWellTyped}
use Rattle.leo_terms.proofs.CallerLemmas.{reduces_typed, normal_form-itself, normal_form-reduces, normal_form-normal}
use Rattle.leo_terms.proofs.ReductionLemmas.{bound_opened-below, bound_opened-at, bound_opened-above, order}
use Rattle.leo_terms.proofs.TreeLemmas.{lifted-below, lifted-above}
use Rattle.leo_clause.specs.Typed.{IsOver}

below_or : (i k : ℕ) → (i < k) ⊎ (k ≤ i)
below_or i k = grind arith

module _ (variables : List SimpleType) where
  over-lifted_bound : (depth from by i : ℕ) (a : SimpleType) → i < depth → IsOver variables (depth + by) (lifted from by (bound i a))
  over-lifted_bound depth from by i a h = elim (below_or i from) [
    | inl l ↦ rw (lifted-below i from by a l) (omega arith)
    | inr l ↦ rw (lifted-above i from by a l) (omega arith)
  ]

  pub over-lifted : (t : Tree) (depth from by more : ℕ) → more ≡ depth + by → IsOver variables depth t → IsOver variables more (lifted from by t)
  over-lifted (variable n a) depth from by more e h = h
  over-lifted (bound i a) depth from by more e h = rw e (over-lifted_bound depth from by i a h)
  over-lifted (symbol s a) depth from by more e h = tt
  over-lifted (app f x) depth from by more e h = (over-lifted f depth from by more e h.0, over-lifted x depth from by more e h.1)
  over-lifted (lam a t) depth from by more e h = over-lifted t (depth + 1) (from + 1) by (more + 1) (omega arith) h
  over-lifted (logic c x y) depth from by more e h = (over-lifted x depth from by more e h.0, over-lifted y depth from by more e h.1)
  over-lifted absent depth from by more e h = tt

  over-opened_bound : (depth k rest i : ℕ) (s : Tree) (a : SimpleType) → depth ≡ k + rest → i < depth + 1 → IsOver variables rest s → IsOver variables depth (bound_opened k s i a)
  over-opened_bound depth k rest i s a e l h = elim (order i k) [
    | inl b ↦ rw (bound_opened-below k s i a b) (omega arith)
    | inr r ↦ elim r [
      | inl b ↦ rw (bound_opened-at k s i a b) (over-lifted s rest 0 k depth (omega arith) h)
      | inr b ↦ rw (bound_opened-above k s i a b) (omega arith)
    ]
  ]

  pub over-opened : (t s : Tree) (depth k rest : ℕ) → depth ≡ k + rest → IsOver variables (depth + 1) t → IsOver variables rest s → IsOver variables depth (opened k s t)
  over-opened (variable n a) s depth k rest e h g = h
  over-opened (bound i a) s depth k rest e h g = over-opened_bound depth k rest i s a e h g
  over-opened (symbol n a) s depth k rest e h g = tt
  over-opened (app f x) s depth k rest e h g = (over-opened f s depth k rest e h.0 g, over-opened x s depth k rest e h.1 g)
  over-opened (lam a t) s depth k rest e h g = over-opened t s (depth + 1) (k + 1) rest (omega arith) h g
  over-opened (logic c x y) s depth k rest e h g = (over-opened x s depth k rest e h.0 g, over-opened y s depth k rest e h.1 g)
  over-opened absent s depth k rest e h g = tt

  over-reduces : (s t : Tree) → Reduces s t → (depth : ℕ) → IsOver variables depth s → IsOver variables depth t
  over-reduces _ _ (nothing t) depth h = h
  over-reduces _ _ (andthen r s t p q) depth h = over-reduces s t q depth (over-reduces r s p depth h)
  over-reduces _ _ (in_app f g x y p q) depth h = (over-reduces f g p depth h.0, over-reduces x y q depth h.1)
  over-reduces _ _ (in_lam a s t p) depth h = over-reduces s t p (depth + 1) h
  over-reduces _ _ (in_logic c s t x y p q) depth h = (over-reduces s t p depth h.0, over-reduces x y q depth h.1)
  over-reduces _ _ (beta a t x p q) depth h = over-opened t x depth 0 depth (omega arith) h.0 h.1
  over-reduces _ _ (eta a b t p) depth h = (over-lifted t depth 0 1 (depth + 1) refl h, omega arith)

  pub over-normal : (t : Tree) (depth : ℕ) → IsWellTyped t → IsOver variables depth t → IsOver variables depth (normal_form t)
  over-normal t depth w h = over-reduces t (normal_form t) (normal_form-reduces t w) depth h

pub normal-typed : (t : Tree) → IsWellTyped t → IsWellTyped (normal_form t)
normal-typed t w = (reduces_typed t (normal_form t) (normal_form-reduces t w) w).0

pub normal-type : (t : Tree) → IsWellTyped t → type_of (normal_form t) ≡ type_of t
normal-type t w = (reduces_typed t (normal_form t) (normal_form-reduces t w) w).1.1

pub normal-twice : (t : Tree) → IsWellTyped t → normal_form (normal_form t) ≡ normal_form t
normal-twice t w = normal_form-itself (normal_form t) (normal_form-normal t w) (normal-typed t w)
