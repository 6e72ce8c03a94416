-- Occurrences under substitution.
use Rattle.std.proofs.Common.{ℕ, ◌+◌, ◌-◌, ◌≡◌, ◌<◌, ◌≤◌, Bool, true, false, List, [], ◌∷◌, ◌++◌, refl, arith, rules}
use Rattle.std.specs.Prelude.{nat_eq, if◌then◌else◌}
use Rattle.fo_terms.specs.Terms.{Term, Terms, variable, symbol, none, more, size, size_of_all}
use Rattle.fo_terms.specs.Substitutions.{Substitution, apply, apply_to_all}
use Rattle.fo_kbo.specs.Occurrences.{occurrences, occurrences_in_all, Covers}

-- the variables of a term, each as often as it occurs
abbrev mutual
  variables : Term → List ℕ
  variables (variable v) = v ∷ []
  variables (symbol f ts) = variables_of_all ts

  variables_of_all : Terms → List ℕ
  variables_of_all none = []
  variables_of_all (more t ts) = variables t ++ variables_of_all ts

-- the sum of a function's values over a list
abbrev total : (ℕ → ℕ) → List ℕ → ℕ
total d [] = 0
total d (x ∷ xs) = d x + total d xs

total-append : (d : ℕ → ℕ) (xs ys : List ℕ) → total d (xs ++ ys) ≡ total d xs + total d ys
total-append d [] ys = omega arith
total-append d (x ∷ xs) ys = let h = total-append d xs ys in omega arith

abbrev one_if : ℕ → ℕ → ℕ
one_if v w = if nat_eq v w then 1 else 0

mutual
  occurrences-total : (v : ℕ) (t : Term) → occurrences v t ≡ total (one_if v) (variables t)
  occurrences-total v (variable w) = omega arith
  occurrences-total v (symbol f ts) = occurrences_in_all-total v ts

  occurrences_in_all-total : (v : ℕ) (ts : Terms) → occurrences_in_all v ts ≡ total (one_if v) (variables_of_all ts)
  occurrences_in_all-total v none = refl
  occurrences_in_all-total v (more t ts) =
      let a = occurrences-total v t in
      let b = occurrences_in_all-total v ts in
      let c = total-append (one_if v) (variables t) (variables_of_all ts) in
      omega arith

-- a list without one place of a member
removed : ℕ → List ℕ → List ℕ
removed x [] = []
removed x (y ∷ ys) = if nat_eq x y then ys else y ∷ removed x ys

one_if-same : (v w : ℕ) → nat_eq v w ≡ true → v ≡ w
one_if-same v w h = search rules

total-removed : (d : ℕ → ℕ) (x : ℕ) (ys : List ℕ) → 0 < total (one_if x) ys → total d ys ≡ d x + total d (removed x ys)
unfolding removed
total-removed d x [] h = absurd (omega arith)
total-removed d x (y ∷ ys) h = go (total-removed d x ys) (nat_eq x y) refl h
  where
    go : (0 < total (one_if x) ys → total d ys ≡ d x + total d (removed x ys)) → (b : Bool) → nat_eq x y ≡ b → 0 < (if b then 1 else 0) + total (one_if x) ys → d y + total d ys ≡ d x + total d (if b then ys else y ∷ removed x ys)
    go others true e k = let same : x ≡ y = one_if-same x y e in rw same refl
    go others false e k = let rest = others (omega arith) in omega arith

-- a list that has each number as often as another has the larger sum
total-le : (d : ℕ → ℕ) (xs ys : List ℕ) → ((v : ℕ) → total (one_if v) xs ≤ total (one_if v) ys) → total d xs ≤ total d ys
total-le d [] ys h = omega arith
total-le d (x ∷ xs) ys h =
    let self : one_if x x ≡ 1 = (let e : nat_eq x x ≡ true = search rules in rw e refl) in
    let here = h x in
    let some : 0 < total (one_if x) ys = omega arith in
    let others = total-le d xs (removed x ys) (λ v. let a = h v in let b = total-removed (one_if v) x ys some in omega arith) in
    let parts = total-removed d x ys some in
    omega arith

pub total-covers : (d : ℕ → ℕ) (s t : Term) → Covers s t → total d (variables t) ≤ total d (variables s)
total-covers d s t h = total-le d (variables t) (variables s) (λ v. let a = h v in let b = occurrences-total v s in let c = occurrences-total v t in omega arith)

mutual
  occurrences-apply : (r : Substitution) (v : ℕ) (t : Term) → occurrences v (apply r t) ≡ total (λ w. occurrences v (r w)) (variables t)
  occurrences-apply r v (variable w) = omega arith
  occurrences-apply r v (symbol f ts) = occurrences_in_all-apply r v ts

  occurrences_in_all-apply : (r : Substitution) (v : ℕ) (ts : Terms) → occurrences_in_all v (apply_to_all r ts) ≡ total (λ w. occurrences v (r w)) (variables_of_all ts)
  occurrences_in_all-apply r v none = refl
  occurrences_in_all-apply r v (more t ts) =
      let a = occurrences-apply r v t in
      let b = occurrences_in_all-apply r v ts in
      let c = total-append (λ w. occurrences v (r w)) (variables t) (variables_of_all ts) in
      omega arith

pub Covers-apply : (r : Substitution) (s t : Term) → Covers s t → Covers (apply r s) (apply r t)
Covers-apply r s t h v =
    let a = total-covers (λ w. occurrences v (r w)) s t h in
    let b = occurrences-apply r v s in
    let c = occurrences-apply r v t in
    omega arith

size-positive : (t : Term) → 0 < size t
size-positive (variable v) = omega arith
size-positive (symbol f ts) = omega arith

mutual
  size-apply : (r : Substitution) (t : Term) → size (apply r t) ≡ size t + total (λ w. size (r w) - 1) (variables t)
  size-apply r (variable w) = let p = size-positive (r w) in omega arith
  size-apply r (symbol f ts) = let h = size_of_all-apply r ts in omega arith

  size_of_all-apply : (r : Substitution) (ts : Terms) → size_of_all (apply_to_all r ts) ≡ size_of_all ts + total (λ w. size (r w) - 1) (variables_of_all ts)
  size_of_all-apply r none = refl
  size_of_all-apply r (more t ts) =
      let a = size-apply r t in
      let b = size_of_all-apply r ts in
      let c = total-append (λ w. size (r w) - 1) (variables t) (variables_of_all ts) in
      omega arith

-- under a substitution the heavier term gains at least as much
pub size-gains : (r : Substitution) (s t : Term) → Covers s t → size (apply r t) + size s ≤ size (apply r s) + size t
size-gains r s t h =
    let a = total-covers (λ w. size (r w) - 1) s t h in
    let b = size-apply r s in
    let c = size-apply r t in
    omega arith
