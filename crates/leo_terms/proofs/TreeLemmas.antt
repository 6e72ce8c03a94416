-- Lifting and opening of trees.
use Rattle.std.proofs.Common.{ℕ, ◌≡◌, ◌+◌, ◌<◌, ◌≤◌, Bool, true, false, nat_lt, refl, ap, arith}
use Rattle.std.proofs.lemmas.Bool.Decides.{nat_tests}
use Rattle.std.specs.Bool.{if◌then◌else◌}
use Rattle.leo_q0.specs.Terms.{SimpleType, arrow}
use Rattle.leo_terms.specs.Tree.{codomain, Tree, variable, bound, symbol, app, lam, logic, absent, type_of, IsBoundAt, lifted}

pub lifted-below : (i from by : ℕ) (a : SimpleType) → i < from → lifted from by (bound i a) ≡ bound i a
lifted-below i from by a h = grind (arith, nat_tests)

pub lifted-above : (i from by : ℕ) (a : SimpleType) → from ≤ i → lifted from by (bound i a) ≡ bound (i + by) a
lifted-above i from by a h = grind (arith, nat_tests)

IsBoundAt-lifted_bound : (k from by i : ℕ) (a b : SimpleType) → k < from → (i ≡ k → b ≡ a) → (l : Bool) → l ≡ nat_lt i from → IsBoundAt k a (if l then bound i b else bound (i + by) b)
IsBoundAt-lifted_bound k from by i a b p h true e = h
IsBoundAt-lifted_bound k from by i a b p h false e = λ q. absurd (let l : from ≤ i = grind (arith, nat_tests) in omega arith)

-- an index below those that are raised keeps its type
pub IsBoundAt-lifted : (t : Tree) (k from by : ℕ) (a : SimpleType) → k < from → IsBoundAt k a t → IsBoundAt k a (lifted from by t)
IsBoundAt-lifted (variable n b) k from by a p h = tt
IsBoundAt-lifted (bound i b) k from by a p h = IsBoundAt-lifted_bound k from by i a b p h (nat_lt i from) refl
IsBoundAt-lifted (symbol s b) k from by a p h = tt
IsBoundAt-lifted (app f x) k from by a p h = (IsBoundAt-lifted f k from by a p h.0, IsBoundAt-lifted x k from by a p h.1)
IsBoundAt-lifted (lam b t) k from by a p h = IsBoundAt-lifted t (k + 1) (from + 1) by a (omega arith) h
IsBoundAt-lifted (logic c x y) k from by a p h = (IsBoundAt-lifted x k from by a p h.0, IsBoundAt-lifted y k from by a p h.1)
IsBoundAt-lifted absent k from by a p h = tt

pub type_of-lifted : (t : Tree) (from by : ℕ) → type_of (lifted from by t) ≡ type_of t
type_of-lifted (variable n b) from by = refl
type_of-lifted (bound i b) from by = at (nat_lt i from)
  where
    at : (l : Bool) → type_of (if l then bound i b else bound (i + by) b) ≡ b
    at true = refl
    at false = refl
type_of-lifted (symbol s b) from by = refl
type_of-lifted (app f x) from by = ap codomain (type_of-lifted f from by)
type_of-lifted (lam b t) from by = ap (arrow b) (type_of-lifted t (from + 1) by)
type_of-lifted (logic c x y) from by = refl
type_of-lifted absent from by = refl
