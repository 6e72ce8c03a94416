-- Other numbers for the symbols of a term: lifting, substitution and the normal form have them too.
use Rattle.std.proofs.Common.{ℕ, zero, suc, ◌≡◌, ◌+◌, ◌-◌, Bool, true, false, List, map, nat_lt, nat_eq, refl, sym, ◌∙◌, ap}
use Rattle.std.specs.Prelude.{slice_get, Option, Some, None}
use Rattle.std.specs.Option.{option_map}
use Rattle.std.specs.Bool.{if◌then◌else◌}
use Rattle.std.proofs.lemmas.Option.{slice_get-map}
use Rattle.leo_q0.specs.Terms.{SimpleType, base, arrow}
use Rattle.leo_terms.specs.Tree.{codomain, Tree, variable, bound, symbol, app, lam, logic, absent, type_of, lifted, opened, bound_opened, variable_given, substituted}
use Rattle.leo_terms.specs.NormalForm.{type_size, applied, put_by, put_within, contracted, expanded, eta_long, normal_form}
use Rattle.leo_derive.specs.Renaming.{symbols_mapped}

pub mapped-type : (r : ℕ → ℕ) (t : Tree) → type_of (symbols_mapped r t) ≡ type_of t
mapped-type r (variable n a) = refl
mapped-type r (bound i a) = refl
mapped-type r (symbol n a) = refl
mapped-type r (app f x) = ap codomain (mapped-type r f)
mapped-type r (lam a t) = ap (arrow a) (mapped-type r t)
mapped-type r (logic c x y) = refl
mapped-type r absent = refl

-- of two terms one is taken
mapped-test : (r : ℕ → ℕ) (b : Bool) (s t : Tree) → symbols_mapped r (if b then s else t) ≡ (if b then symbols_mapped r s else symbols_mapped r t)
mapped-test r true s t = refl
mapped-test r false s t = refl

pub mapped-lifted : (r : ℕ → ℕ) (t : Tree) (from by : ℕ) → symbols_mapped r (lifted from by t) ≡ lifted from by (symbols_mapped r t)
mapped-lifted r (variable n a) from by = refl
mapped-lifted r (bound i a) from by = mapped-test r (nat_lt i from) (bound i a) (bound (i + by) a)
mapped-lifted r (symbol n a) from by = refl
mapped-lifted r (app f x) from by = rw (mapped-lifted r f from by, mapped-lifted r x from by) refl
mapped-lifted r (lam a t) from by = ap (lam a) (mapped-lifted r t (from + 1) by)
mapped-lifted r (logic c x y) from by = rw (mapped-lifted r x from by, mapped-lifted r y from by) refl
mapped-lifted r absent from by = refl

mapped-index : (r : ℕ → ℕ) (k : ℕ) (s : Tree) (i : ℕ) (a : SimpleType) → symbols_mapped r (bound_opened k s i a) ≡ bound_opened k (symbols_mapped r s) i a
mapped-index r k s i a =
    mapped-test r (nat_lt i k) (bound i a) (if nat_eq i k then lifted 0 k s else bound (i - 1) a)
    ∙ ap (λ (z : Tree). if nat_lt i k then bound i a else z) (mapped-test r (nat_eq i k) (lifted 0 k s) (bound (i - 1) a)
    ∙ ap (λ (z : Tree). if nat_eq i k then z else bound (i - 1) a) (mapped-lifted r s 0 k))

mapped-opened : (r : ℕ → ℕ) (t s : Tree) (k : ℕ) → symbols_mapped r (opened k s t) ≡ opened k (symbols_mapped r s) (symbols_mapped r t)
mapped-opened r (variable n a) s k = refl
mapped-opened r (bound i a) s k = mapped-index r k s i a
mapped-opened r (symbol n a) s k = refl
mapped-opened r (app f x) s k = rw (mapped-opened r f s k, mapped-opened r x s k) refl
mapped-opened r (lam a t) s k = ap (lam a) (mapped-opened r t s (k + 1))
mapped-opened r (logic c x y) s k = rw (mapped-opened r x s k, mapped-opened r y s k) refl
mapped-opened r absent s k = refl

module _ (r : ℕ → ℕ) (contract : Tree → Tree → Tree) (commutes : (x t : Tree) → symbols_mapped r (contract x t) ≡ contract (symbols_mapped r x) (symbols_mapped r t)) where
  mapped-applied : (f x : Tree) → symbols_mapped r (applied contract f x) ≡ applied contract (symbols_mapped r f) (symbols_mapped r x)
  mapped-applied (variable n a) x = refl
  mapped-applied (bound i a) x = refl
  mapped-applied (symbol n a) x = refl
  mapped-applied (app f y) x = refl
  mapped-applied (lam a t) x = commutes x t
  mapped-applied (logic c y z) x = refl
  mapped-applied absent x = refl

  mapped-put_by : (t s : Tree) (k : ℕ) → symbols_mapped r (put_by contract k s t) ≡ put_by contract k (symbols_mapped r s) (symbols_mapped r t)
  mapped-put_by (variable n a) s k = refl
  mapped-put_by (bound i a) s k = mapped-index r k s i a
  mapped-put_by (symbol n a) s k = refl
  mapped-put_by (app f x) s k = mapped-applied (put_by contract k s f) (put_by contract k s x) ∙ rw (mapped-put_by f s k, mapped-put_by x s k) refl
  mapped-put_by (lam a t) s k = ap (lam a) (mapped-put_by t s (k + 1))
  mapped-put_by (logic c x y) s k = rw (mapped-put_by x s k, mapped-put_by y s k) refl
  mapped-put_by absent s k = refl

mapped-put : (r : ℕ → ℕ) (depth : ℕ) (k : ℕ) (s t : Tree) → symbols_mapped r (put_within depth k s t) ≡ put_within depth k (symbols_mapped r s) (symbols_mapped r t)
mapped-put r zero k s t = mapped-opened r t s k
mapped-put r (suc depth) k s t = mapped-put_by r (put_within depth 0) (mapped-put r depth 0) t s k

mapped-contracted : (r : ℕ → ℕ) (x t : Tree) → symbols_mapped r (contracted x t) ≡ contracted (symbols_mapped r x) (symbols_mapped r t)
mapped-contracted r x t =
    mapped-put r (type_size (type_of x)) 0 x t
    ∙ ap (λ (a : SimpleType). put_within (type_size a) 0 (symbols_mapped r x) (symbols_mapped r t)) (sym (mapped-type r x))

mapped-expanded : (r : ℕ → ℕ) (a : SimpleType) (t : Tree) → symbols_mapped r (expanded a t) ≡ expanded a (symbols_mapped r t)
mapped-expanded r (base n) t = refl
mapped-expanded r (arrow a b) t =
    ap (lam a) (mapped-expanded r b (app (lifted 0 1 t) (expanded a (bound 0 a)))
    ∙ rw (mapped-lifted r t 0 1, mapped-expanded r a (bound 0 a)) refl)

mapped-eta : (r : ℕ → ℕ) (t : Tree) → symbols_mapped r (eta_long t) ≡ eta_long (symbols_mapped r t)
mapped-eta r t = mapped-expanded r (type_of t) t ∙ ap (λ (a : SimpleType). expanded a (symbols_mapped r t)) (sym (mapped-type r t))

pub mapped-normal : (r : ℕ → ℕ) (t : Tree) → symbols_mapped r (normal_form t) ≡ normal_form (symbols_mapped r t)
mapped-normal r (variable n a) = mapped-eta r (variable n a)
mapped-normal r (bound i a) = mapped-eta r (bound i a)
mapped-normal r (symbol n a) = mapped-eta r (symbol n a)
mapped-normal r (app f x) = mapped-applied r contracted (mapped-contracted r) (normal_form f) (normal_form x) ∙ rw (mapped-normal r f, mapped-normal r x) refl
mapped-normal r (lam a t) = ap (lam a) (mapped-normal r t)
mapped-normal r (logic c x y) = mapped-eta r (logic c (normal_form x) (normal_form y)) ∙ rw (mapped-normal r x, mapped-normal r y) refl
mapped-normal r absent = refl

-- terms put in for variables

mapped-given : (r : ℕ → ℕ) (k : ℕ) (o : Option Tree) (n : ℕ) (a : SimpleType) → symbols_mapped r (variable_given k o n a) ≡ variable_given k (option_map (symbols_mapped r) o) n a
mapped-given r k None n a = refl
mapped-given r k (Some s) n a = mapped-lifted r s 0 k

pub mapped-substituted : (r : ℕ → ℕ) (given : List Tree) (k : ℕ) (t : Tree) → symbols_mapped r (substituted given k t) ≡ substituted (map (symbols_mapped r) given) k (symbols_mapped r t)
mapped-substituted r given k (variable n a) = mapped-given r k (slice_get given n) n a ∙ ap (λ (o : Option Tree). variable_given k o n a) (sym (slice_get-map (symbols_mapped r) given n))
mapped-substituted r given k (bound i a) = refl
mapped-substituted r given k (symbol n a) = refl
mapped-substituted r given k (app f x) = rw (mapped-substituted r given k f, mapped-substituted r given k x) refl
mapped-substituted r given k (lam a t) = ap (lam a) (mapped-substituted r given (k + 1) t)
mapped-substituted r given k (logic c x y) = rw (mapped-substituted r given k x, mapped-substituted r given k y) refl
mapped-substituted r given k absent = refl

-- what undoes the map gives the term back
pub mapped-back : (r q : ℕ → ℕ) (h : (n : ℕ) → q (r n) ≡ n) (t : Tree) → symbols_mapped q (symbols_mapped r t) ≡ t
mapped-back r q h (variable n a) = refl
mapped-back r q h (bound i a) = refl
mapped-back r q h (symbol n a) = ap (λ m. symbol m a) (h n)
mapped-back r q h (app f x) = rw (mapped-back r q h f, mapped-back r q h x) refl
mapped-back r q h (lam a t) = ap (lam a) (mapped-back r q h t)
mapped-back r q h (logic c x y) = rw (mapped-back r q h x, mapped-back r q h y) refl
mapped-back r q h absent = refl

pub mapped-equal : (r q : ℕ → ℕ) (h : (n : ℕ) → q (r n) ≡ n) (s t : Tree) → symbols_mapped r s ≡ symbols_mapped r t → s ≡ t
mapped-equal r q h s t e = sym (mapped-back r q h s) ∙ (ap (symbols_mapped q) e ∙ mapped-back r q h t)
