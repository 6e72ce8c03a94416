-- The terms of the connectives: closed, and with low numbers for their bound variables.
use Rattle.std.proofs.Common.{◌≡◌, ℕ, ◌<◌, ◌≤◌, Bool, true, false, ◌&&◌, ◌||◌, not, List, Option, None, refl, ap, arith}
use Rattle.std.proofs.lemmas.Bool.{lt-ltb, and_right}
use Rattle.leo_q0.specs.Terms.{SimpleType, arrow, truth, Variable, same_variable, Term, variable, constant, identity, choice, apply, lambda}
use Rattle.leo_q0.specs.Substitution.{is_free}
use Rattle.leo_q0.specs.Connectives.{x_of, equation, true_term, false_term, not_term, or_term, and_term, imp_term, all_term, some_term}
use Rattle.leo_q0.proofs.Variables.{same_variable-refl}
use Rattle.leo_sound.proofs.Places.{Closed, and_closed, imp_closed, or_closed}
use Rattle.leo_terms.specs.Decode.{without, replaced_all}
use Rattle.leo_terms.proofs.DecodedShapes.{some_closed}
use Rattle.leo_simulation.proofs.Instances.{IsOpenFor, Avoids, mapped}

pub data IsFixed : Term → Type 0 where
  fixed_identity : (a : SimpleType) → IsFixed (identity a)
  fixed_choice : (a : SimpleType) → IsFixed (choice a)
  fixed_apply : {f t : Term} → IsFixed f → IsFixed t → IsFixed (apply f t)
  fixed_lambda : (v : Variable) (t : Term) → v.number < 2 → Closed (lambda v t) → IsFixed (lambda v t)

fixed_equation : (a : SimpleType) {s t : Term} → IsFixed s → IsFixed t → IsFixed (equation a s t)
fixed_equation a p q = fixed_apply (fixed_apply (fixed_identity a) p) q

pub fixed_true : IsFixed true_term
fixed_true = fixed_equation (arrow truth (arrow truth truth)) (fixed_identity truth) (fixed_identity truth)

constant_closed : (v : Variable) → Closed (lambda v true_term)
constant_closed v w = and_right (not (same_variable w v)) false refl

itself_closed : (v : Variable) → Closed (lambda v (variable v))
itself_closed v w = go (same_variable w v)
  where
    go : (b : Bool) → (not b && b) ≡ false
    go true = refl
    go false = refl

pub fixed_false : IsFixed false_term
fixed_false =
    fixed_equation (arrow truth truth) (fixed_lambda (x_of truth) true_term (omega arith) (constant_closed (x_of truth)))
    (fixed_lambda (x_of truth) (variable (x_of truth)) (omega arith) (itself_closed (x_of truth)))

pub fixed_not : IsFixed not_term
fixed_not = fixed_apply (fixed_identity truth) fixed_false

pub fixed_or : IsFixed or_term
fixed_or = fixed_lambda (x_of truth) _ (omega arith) or_closed

pub fixed_and : IsFixed and_term
fixed_and = fixed_lambda (x_of truth) _ (omega arith) and_closed

pub fixed_imp : IsFixed imp_term
fixed_imp = fixed_lambda (x_of truth) _ (omega arith) imp_closed

pub fixed_all : (a : SimpleType) → IsFixed (all_term a)
fixed_all a = fixed_apply (fixed_identity (arrow a truth)) (fixed_lambda (x_of a) true_term (omega arith) (constant_closed (x_of a)))

pub fixed_some : (a : SimpleType) → IsFixed (some_term a)
fixed_some a = fixed_lambda (x_of (arrow a truth)) _ (omega arith) (some_closed a)

module _ (limit first : ℕ) (two : 2 ≤ limit) where
  pub fixed_open : (types : List SimpleType) {c : Term} → IsFixed c → IsOpenFor limit first types c
  fixed_open types (fixed_identity a) = tt
  fixed_open types (fixed_choice a) = tt
  fixed_open types (fixed_apply f t) = (fixed_open types f, fixed_open types t)
  fixed_open types (fixed_lambda v t low closed) = rw (lt-ltb v.number limit (omega (arith, low, two))) closed

  pub fixed_avoids : (count : ℕ) {c : Term} → IsFixed c → Avoids limit first count c
  fixed_avoids count (fixed_identity a) = tt
  fixed_avoids count (fixed_choice a) = tt
  fixed_avoids count (fixed_apply f t) = (fixed_avoids count f, fixed_avoids count t)
  fixed_avoids count (fixed_lambda v t low closed) = rw (lt-ltb v.number limit (omega (arith, low, two))) closed

  pub fixed_mapped : (ss : List Term) {c : Term} → IsFixed c → mapped limit first ss c ≡ c
  fixed_mapped ss (fixed_identity a) = refl
  fixed_mapped ss (fixed_choice a) = refl
  fixed_mapped ss (fixed_apply f t) = rw (fixed_mapped ss f, fixed_mapped ss t) refl
  fixed_mapped ss (fixed_lambda v t low closed) = rw (lt-ltb v.number limit (omega (arith, low, two))) refl

-- where nothing is given for the free variables, nothing is replaced
nothing_given : (t : Term) (given : Variable → Option Term) → ((v : Variable) → is_free v t ≡ true → given v ≡ None) → replaced_all given t ≡ t
nothing_given (variable v) given h = rw (h v (same_variable-refl v)) refl
nothing_given (constant n a) given h = refl
nothing_given (identity a) given h = refl
nothing_given (choice a) given h = refl
nothing_given (apply f t) given h =
    rw (nothing_given f given (λ v e. h v (rw e refl)), nothing_given t given (λ v e. h v (or_second (is_free v f) (is_free v t) e))) refl
  where
    or_second : (p q : Bool) → q ≡ true → (p || q) ≡ true
    or_second true q e = refl
    or_second false q e = e
nothing_given (lambda w t) given h = ap (lambda w) (nothing_given t (without w given) (λ v e. at v e (same_variable v w) refl))
  where
    at : (v : Variable) → is_free v t ≡ true → (b : Bool) → same_variable v w ≡ b → without w given v ≡ None
    at v e true k = rw k refl
    at v e false k = rw k (h v (rw (k, e) refl))

pub fixed_replaced : (given : Variable → Option Term) {c : Term} → IsFixed c → replaced_all given c ≡ c
fixed_replaced given (fixed_identity a) = refl
fixed_replaced given (fixed_choice a) = refl
fixed_replaced given (fixed_apply f t) = rw (fixed_replaced given f, fixed_replaced given t) refl
fixed_replaced given (fixed_lambda v t low closed) = nothing_given (lambda v t) given (λ w e. absurd (let k = closed w in let f : ⊥ = cc in f))
