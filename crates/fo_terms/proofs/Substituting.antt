-- Laws of substitution, of occurrence and of size.
use Rattle.std.proofs.Common.{ℕ, suc, ◌≡◌, ◌<◌, ◌≤◌, Bool, true, false, ◌||◌, refl, ap, arith, rules, ◌⊎◌, inl, inr}
use Rattle.std.specs.Prelude.{nat_eq}
use Rattle.fo_terms.specs.Terms.{Term, Terms, variable, symbol, none, more, count, size, size_of_all, occurs, occurs_in_any}
use Rattle.fo_terms.specs.Substitutions.{Substitution, apply, apply_to_all}

mutual
  pub apply-variable : (t : Term) → apply variable t ≡ t
  apply-variable (variable v) = refl
  apply-variable (symbol f ts) = ap (symbol f) (apply_to_all-variable ts)

  pub apply_to_all-variable : (ts : Terms) → apply_to_all variable ts ≡ ts
  apply_to_all-variable none = refl
  apply_to_all-variable (more t ts) = rw (apply-variable t, apply_to_all-variable ts) refl

mutual
  pub apply-apply : (r s : Substitution) (t : Term) → apply r (apply s t) ≡ apply (λ v. apply r (s v)) t
  apply-apply r s (variable v) = refl
  apply-apply r s (symbol f ts) = ap (symbol f) (apply_to_all-apply_to_all r s ts)

  pub apply_to_all-apply_to_all : (r s : Substitution) (ts : Terms) → apply_to_all r (apply_to_all s ts) ≡ apply_to_all (λ v. apply r (s v)) ts
  apply_to_all-apply_to_all r s none = refl
  apply_to_all-apply_to_all r s (more t ts) = rw (apply-apply r s t, apply_to_all-apply_to_all r s ts) refl

pub nat_eq-refl : (v : ℕ) → nat_eq v v ≡ true
nat_eq-refl v = search rules

pub or_true : (a b : Bool) → (a || b) ≡ true → (a ≡ true) ⊎ (b ≡ true)
or_true true b h = inl refl
or_true false b h = inr h

pub or_left : (a b : Bool) → a ≡ true → (a || b) ≡ true
or_left true b h = refl
or_left false b h = absurd cc

pub or_right : (a b : Bool) → b ≡ true → (a || b) ≡ true
or_right true b h = refl
or_right false b h = h

-- substitutions that agree on the variables of a term
mutual
  pub apply-same : (r s : Substitution) (t : Term) → ((v : ℕ) → occurs v t ≡ true → r v ≡ s v) → apply r t ≡ apply s t
  apply-same r s (variable v) h = h v (nat_eq-refl v)
  apply-same r s (symbol f ts) h = ap (symbol f) (apply_to_all-same r s ts h)

  pub apply_to_all-same : (r s : Substitution) (ts : Terms) → ((v : ℕ) → occurs_in_any v ts ≡ true → r v ≡ s v) → apply_to_all r ts ≡ apply_to_all s ts
  apply_to_all-same r s none h = refl
  apply_to_all-same r s (more t ts) h =
      rw (apply-same r s t (λ v o. h v (or_left (occurs v t) (occurs_in_any v ts) o)), apply_to_all-same r s ts (λ v o. h v (or_right (occurs v t) (occurs_in_any v ts) o))) refl

-- a variable of what a substitution makes of a term comes from a variable of the term
mutual
  pub occurs-apply : (s : Substitution) (u : ℕ) (t : Term) → occurs u (apply s t) ≡ true → (v : ℕ) × (occurs v t ≡ true) × (occurs u (s v) ≡ true)
  occurs-apply s u (variable v) h = (v, nat_eq-refl v, h)
  occurs-apply s u (symbol f ts) h = occurs_in_any-apply s u ts h

  pub occurs_in_any-apply : (s : Substitution) (u : ℕ) (ts : Terms) → occurs_in_any u (apply_to_all s ts) ≡ true → (v : ℕ) × (occurs_in_any v ts ≡ true) × (occurs u (s v) ≡ true)
  occurs_in_any-apply s u none h = absurd cc
  occurs_in_any-apply s u (more t ts) h =
      elim (or_true (occurs u (apply s t)) (occurs_in_any u (apply_to_all s ts)) h) [
        | inl l ↦ (let w = occurs-apply s u t l in (w.0, or_left (occurs w.0 t) (occurs_in_any w.0 ts) w.1, w.2))
        | inr r ↦ (let w = occurs_in_any-apply s u ts r in (w.0, or_right (occurs w.0 t) (occurs_in_any w.0 ts) w.1, w.2))
      ]

-- what is put in for a variable is no larger than the whole
mutual
  pub size-occurs : (s : Substitution) (v : ℕ) (t : Term) → occurs v t ≡ true → size (s v) ≤ size (apply s t)
  size-occurs s v (variable w) h = let e : v ≡ w = search rules in rw e (omega arith)
  size-occurs s v (symbol f ts) h = let k = size_of_all-occurs s v ts h in omega arith

  pub size_of_all-occurs : (s : Substitution) (v : ℕ) (ts : Terms) → occurs_in_any v ts ≡ true → size (s v) ≤ size_of_all (apply_to_all s ts)
  size_of_all-occurs s v none h = absurd cc
  size_of_all-occurs s v (more t ts) h =
      elim (or_true (occurs v t) (occurs_in_any v ts) h) [
        | inl l ↦ (let k = size-occurs s v t l in omega arith)
        | inr r ↦ (let k = size_of_all-occurs s v ts r in omega arith)
      ]

pub count-apply_to_all : (s : Substitution) (ts : Terms) → count (apply_to_all s ts) ≡ count ts
count-apply_to_all s none = refl
count-apply_to_all s (more t ts) = ap suc (count-apply_to_all s ts)

pub size-positive : (t : Term) → 0 < size t
size-positive (variable v) = omega arith
size-positive (symbol f ts) = omega arith
