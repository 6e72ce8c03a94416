-- Other numbers for the variables of a term: the normal form has them too.
use Rattle.std.proofs.Common.{ℕ, zero, suc, ◌≡◌, ◌+◌, ◌-◌, ◌<◌, ◌≤◌, Bool, true, false, nat_lt, nat_eq, refl, sym, ◌∙◌, ap, arith}
use Rattle.std.specs.Prelude.{min}
use Rattle.std.specs.Bool.{if◌then◌else◌}
use Rattle.leo_q0.specs.Terms.{SimpleType, base, arrow}
use Rattle.leo_terms.specs.Tree.{codomain, Tree, variable, bound, symbol, app, lam, logic, absent, type_of, lifted, opened, bound_opened}
use Rattle.leo_terms.specs.Facts.{variable_range}
use Rattle.leo_terms.specs.NormalForm.{type_size, applied, put_by, put_within, contracted, expanded, eta_long, normal_form}
use Rattle.leo_kernel.specs.ChosenTerms.{renamed}

pub renamed-type : (r : ℕ → ℕ) (t : Tree) → type_of (renamed r t) ≡ type_of t
renamed-type r (variable n a) = refl
renamed-type r (bound i a) = refl
renamed-type r (symbol n a) = refl
renamed-type r (app f x) = ap codomain (renamed-type r f)
renamed-type r (lam a t) = ap (arrow a) (renamed-type r t)
renamed-type r (logic c x y) = refl
renamed-type r absent = refl

-- of two terms one is taken
renamed-test : (r : ℕ → ℕ) (b : Bool) (s t : Tree) → renamed r (if b then s else t) ≡ (if b then renamed r s else renamed r t)
renamed-test r true s t = refl
renamed-test r false s t = refl

pub renamed-lifted : (r : ℕ → ℕ) (t : Tree) (from by : ℕ) → renamed r (lifted from by t) ≡ lifted from by (renamed r t)
renamed-lifted r (variable n a) from by = refl
renamed-lifted r (bound i a) from by = renamed-test r (nat_lt i from) (bound i a) (bound (i + by) a)
renamed-lifted r (symbol n a) from by = refl
renamed-lifted r (app f x) from by = rw (renamed-lifted r f from by, renamed-lifted r x from by) refl
renamed-lifted r (lam a t) from by = ap (lam a) (renamed-lifted r t (from + 1) by)
renamed-lifted r (logic c x y) from by = rw (renamed-lifted r x from by, renamed-lifted r y from by) refl
renamed-lifted r absent from by = refl

renamed-index : (r : ℕ → ℕ) (k : ℕ) (s : Tree) (i : ℕ) (a : SimpleType) → renamed r (bound_opened k s i a) ≡ bound_opened k (renamed r s) i a
renamed-index r k s i a =
    renamed-test r (nat_lt i k) (bound i a) (if nat_eq i k then lifted 0 k s else bound (i - 1) a)
    ∙ ap (λ (z : Tree). if nat_lt i k then bound i a else z) (renamed-test r (nat_eq i k) (lifted 0 k s) (bound (i - 1) a)
    ∙ ap (λ (z : Tree). if nat_eq i k then z else bound (i - 1) a) (renamed-lifted r s 0 k))

renamed-opened : (r : ℕ → ℕ) (t s : Tree) (k : ℕ) → renamed r (opened k s t) ≡ opened k (renamed r s) (renamed r t)
renamed-opened r (variable n a) s k = refl
renamed-opened r (bound i a) s k = renamed-index r k s i a
renamed-opened r (symbol n a) s k = refl
renamed-opened r (app f x) s k = rw (renamed-opened r f s k, renamed-opened r x s k) refl
renamed-opened r (lam a t) s k = ap (lam a) (renamed-opened r t s (k + 1))
renamed-opened r (logic c x y) s k = rw (renamed-opened r x s k, renamed-opened r y s k) refl
renamed-opened r absent s k = refl

module _ (r : ℕ → ℕ) (contract : Tree → Tree → Tree) (commutes : (x t : Tree) → renamed r (contract x t) ≡ contract (renamed r x) (renamed r t)) where
  renamed-applied : (f x : Tree) → renamed r (applied contract f x) ≡ applied contract (renamed r f) (renamed r x)
  renamed-applied (variable n a) x = refl
  renamed-applied (bound i a) x = refl
  renamed-applied (symbol n a) x = refl
  renamed-applied (app f y) x = refl
  renamed-applied (lam a t) x = commutes x t
  renamed-applied (logic c y z) x = refl
  renamed-applied absent x = refl

  renamed-put_by : (t s : Tree) (k : ℕ) → renamed r (put_by contract k s t) ≡ put_by contract k (renamed r s) (renamed r t)
  renamed-put_by (variable n a) s k = refl
  renamed-put_by (bound i a) s k = renamed-index r k s i a
  renamed-put_by (symbol n a) s k = refl
  renamed-put_by (app f x) s k = renamed-applied (put_by contract k s f) (put_by contract k s x) ∙ rw (renamed-put_by f s k, renamed-put_by x s k) refl
  renamed-put_by (lam a t) s k = ap (lam a) (renamed-put_by t s (k + 1))
  renamed-put_by (logic c x y) s k = rw (renamed-put_by x s k, renamed-put_by y s k) refl
  renamed-put_by absent s k = refl

renamed-put : (r : ℕ → ℕ) (depth : ℕ) (k : ℕ) (s t : Tree) → renamed r (put_within depth k s t) ≡ put_within depth k (renamed r s) (renamed r t)
renamed-put r zero k s t = renamed-opened r t s k
renamed-put r (suc depth) k s t = renamed-put_by r (put_within depth 0) (renamed-put r depth 0) t s k

renamed-contracted : (r : ℕ → ℕ) (x t : Tree) → renamed r (contracted x t) ≡ contracted (renamed r x) (renamed r t)
renamed-contracted r x t =
    renamed-put r (type_size (type_of x)) 0 x t
    ∙ ap (λ (a : SimpleType). put_within (type_size a) 0 (renamed r x) (renamed r t)) (sym (renamed-type r x))

renamed-expanded : (r : ℕ → ℕ) (a : SimpleType) (t : Tree) → renamed r (expanded a t) ≡ expanded a (renamed r t)
renamed-expanded r (base n) t = refl
renamed-expanded r (arrow a b) t =
    ap (lam a) (renamed-expanded r b (app (lifted 0 1 t) (expanded a (bound 0 a)))
    ∙ rw (renamed-lifted r t 0 1, renamed-expanded r a (bound 0 a)) refl)

renamed-eta : (r : ℕ → ℕ) (t : Tree) → renamed r (eta_long t) ≡ eta_long (renamed r t)
renamed-eta r t = renamed-expanded r (type_of t) t ∙ ap (λ (a : SimpleType). expanded a (renamed r t)) (sym (renamed-type r t))

pub renamed-normal : (r : ℕ → ℕ) (t : Tree) → renamed r (normal_form t) ≡ normal_form (renamed r t)
renamed-normal r (variable n a) = renamed-eta r (variable n a)
renamed-normal r (bound i a) = renamed-eta r (bound i a)
renamed-normal r (symbol n a) = renamed-eta r (symbol n a)
renamed-normal r (app f x) = renamed-applied r contracted (renamed-contracted r) (normal_form f) (normal_form x) ∙ rw (renamed-normal r f, renamed-normal r x) refl
renamed-normal r (lam a t) = ap (lam a) (renamed-normal r t)
renamed-normal r (logic c x y) = renamed-eta r (logic c (normal_form x) (normal_form y)) ∙ rw (renamed-normal r x, renamed-normal r y) refl
renamed-normal r absent = refl

-- only the variables that a term has matter
pub renamed-same : (r s : ℕ → ℕ) (t : Tree) → ((n : ℕ) → n < variable_range t → r n ≡ s n) → renamed r t ≡ renamed s t
renamed-same r s (variable n a) h = ap (λ m. variable m a) (h n (omega arith))
renamed-same r s (bound i a) h = refl
renamed-same r s (symbol n a) h = refl
renamed-same r s (app f x) h = rw (renamed-same r s f (λ n l. h n (omega arith)), renamed-same r s x (λ n l. h n (omega arith))) refl
renamed-same r s (lam a t) h = ap (lam a) (renamed-same r s t h)
renamed-same r s (logic c x y) h = rw (renamed-same r s x (λ n l. h n (omega arith)), renamed-same r s y (λ n l. h n (omega arith))) refl
renamed-same r s absent h = refl

renamed-itself : (t : Tree) → renamed (λ n. n) t ≡ t
renamed-itself (variable n a) = refl
renamed-itself (bound i a) = refl
renamed-itself (symbol n a) = refl
renamed-itself (app f x) = rw (renamed-itself f, renamed-itself x) refl
renamed-itself (lam a t) = ap (lam a) (renamed-itself t)
renamed-itself (logic c x y) = rw (renamed-itself x, renamed-itself y) refl
renamed-itself absent = refl

pub renamed-fixed : (r : ℕ → ℕ) (t : Tree) → ((n : ℕ) → n < variable_range t → r n ≡ n) → renamed r t ≡ t
renamed-fixed r t h = renamed-same r (λ n. n) t h ∙ renamed-itself t

range-renamed : (r : ℕ → ℕ) (m : ℕ) → ((n : ℕ) → r n ≤ m) → (t : Tree) → variable_range (renamed r t) ≤ suc m
range-renamed r m h (variable n a) = let l = h n in omega arith
range-renamed r m h (bound i a) = omega arith
range-renamed r m h (symbol n a) = omega arith
range-renamed r m h (app f x) = let p = range-renamed r m h f in let q = range-renamed r m h x in omega arith
range-renamed r m h (lam a t) = range-renamed r m h t
range-renamed r m h (logic c x y) = let p = range-renamed r m h x in let q = range-renamed r m h y in omega arith
range-renamed r m h absent = omega arith

-- a normal form has no further variables
pub range-normal : (m : ℕ) (t : Tree) → variable_range t ≤ suc m → variable_range (normal_form t) ≤ suc m
range-normal m t h =
    let e : renamed (λ n. min n m) (normal_form t) ≡ normal_form t = renamed-normal (λ n. min n m) t ∙ ap normal_form (renamed-fixed (λ n. min n m) t (λ n l. omega arith)) in
    rw e at (range-renamed (λ n. min n m) m (λ n. omega arith) (normal_form t))
