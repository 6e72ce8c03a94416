-- Reduction brings no variable and no index in.
use Rattle.std.proofs.Common.{ℕ, ◌≡◌, ◌+◌, ◌<◌, ◌≤◌, Bool, true, false, nat_lt, refl, inl, inr, arith}
use Rattle.std.specs.Bool.{if◌then◌else◌}
use Rattle.leo_q0.specs.Terms.{SimpleType}
use Rattle.leo_terms.specs.Tree.{Tree, variable, bound, symbol, app, lam, logic, absent, lifted, opened, bound_opened}
use Rattle.leo_terms.specs.Reduction.{Reduces, nothing, andthen, in_app, in_lam, in_logic, beta, eta}
use Rattle.leo_terms.proofs.ReductionLemmas.{bound_opened-below, bound_opened-at, bound_opened-above, order}
use Rattle.leo_terms.specs.Decode.{IsFitting}

fitting_bound : (i first n n' from k : ℕ) (b : SimpleType) → n' ≡ n + k → first + i < n → (l : Bool) → IsFitting first n' (if l then bound i b else bound (i + k) b)
fitting_bound i first n n' from k b e f true = omega arith
fitting_bound i first n n' from k b e f false = omega arith

pub IsFitting-lifted : (t : Tree) (first n n' from k : ℕ) → n' ≡ n + k → IsFitting first n t → IsFitting first n' (lifted from k t)
IsFitting-lifted (variable c b) first n n' from k e f = f
IsFitting-lifted (bound i b) first n n' from k e f = fitting_bound i first n n' from k b e f (nat_lt i from)
IsFitting-lifted (symbol s b) first n n' from k e f = tt
IsFitting-lifted (app g x) first n n' from k e f = (IsFitting-lifted g first n n' from k e f.0, IsFitting-lifted x first n n' from k e f.1)
IsFitting-lifted (lam b t) first n n' from k e f = IsFitting-lifted t first (n + 1) (n' + 1) (from + 1) k (omega arith) f
IsFitting-lifted (logic c x y) first n n' from k e f = (IsFitting-lifted x first n n' from k e f.0, IsFitting-lifted y first n n' from k e f.1)
IsFitting-lifted absent first n n' from k e f = tt

fitting_opened : (i first d m n n' : ℕ) (b : SimpleType) (x : Tree) → n ≡ d + 1 + m → n' ≡ d + m → first ≤ d → IsFitting first d x → first + i < n → IsFitting first n' (bound_opened m x i b)
fitting_opened i first d m n n' b x en en' lf fx f =
    elim (order i m) [
      | inl l ↦ rw (bound_opened-below m x i b l) (omega arith)
      | inr r ↦ elim r [
        | inl e ↦ rw (bound_opened-at m x i b e) (IsFitting-lifted x first d n' 0 m en' fx)
        | inr g ↦ rw (bound_opened-above m x i b g) (omega arith)
      ]
    ]

pub IsFitting-opened : (t : Tree) (first d m n n' : ℕ) (x : Tree) → n ≡ d + 1 + m → n' ≡ d + m → first ≤ d → IsFitting first d x → IsFitting first n t → IsFitting first n' (opened m x t)
IsFitting-opened (variable c b) first d m n n' x en en' lf fx f = f
IsFitting-opened (bound i b) first d m n n' x en en' lf fx f = fitting_opened i first d m n n' b x en en' lf fx f
IsFitting-opened (symbol s b) first d m n n' x en en' lf fx f = tt
IsFitting-opened (app g y) first d m n n' x en en' lf fx f = (IsFitting-opened g first d m n n' x en en' lf fx f.0, IsFitting-opened y first d m n n' x en en' lf fx f.1)
IsFitting-opened (lam b t) first d m n n' x en en' lf fx f = IsFitting-opened t first d (m + 1) (n + 1) (n' + 1) x (omega arith) (omega arith) lf fx f
IsFitting-opened (logic c y z) first d m n n' x en en' lf fx f = (IsFitting-opened y first d m n n' x en en' lf fx f.0, IsFitting-opened z first d m n n' x en en' lf fx f.1)
IsFitting-opened absent first d m n n' x en en' lf fx f = tt

pub IsFitting-reduces : (s t : Tree) → Reduces s t → (first d : ℕ) → first ≤ d → IsFitting first d s → IsFitting first d t
IsFitting-reduces _ _ (nothing t) first d l f = f
IsFitting-reduces _ _ (andthen r s t p q) first d l f = IsFitting-reduces s t q first d l (IsFitting-reduces r s p first d l f)
IsFitting-reduces _ _ (in_app g h x y p q) first d l f = (IsFitting-reduces g h p first d l f.0, IsFitting-reduces x y q first d l f.1)
IsFitting-reduces _ _ (in_lam a s t p) first d l f = IsFitting-reduces s t p first (d + 1) (omega arith) f
IsFitting-reduces _ _ (in_logic c s t x y p q) first d l f = (IsFitting-reduces s t p first d l f.0, IsFitting-reduces x y q first d l f.1)
IsFitting-reduces _ _ (beta a t x p q) first d l f = IsFitting-opened t first d 0 (d + 1) d x (omega arith) (omega arith) l f.1 f.0
IsFitting-reduces _ _ (eta a b t p) first d l f = (IsFitting-lifted t first d (d + 1) 0 1 refl f, omega arith)
