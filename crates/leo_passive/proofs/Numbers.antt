-- The slots of a number.
use Rattle.std.proofs.Common.{◌≡◌, ℕ, ◌+◌, ◌*◌, ◌/◌, Bool, true, false, refl, ap, eq-eqb, ne_eqb, arith}
use Rattle.std.specs.Prelude.{nat_eq}
use Rattle.std.proofs.lemmas.Bool.{eqb-true}

pub half : (n : ℕ) → (2 * n) / 2 ≡ n
half n = grind arith

pub half_odd : (n : ℕ) → (2 * n + 1) / 2 ≡ n
half_odd n = grind arith

pub even-odd : (n m : ℕ) → nat_eq (2 * n) (2 * m + 1) ≡ false
even-odd n m = ne_eqb (2 * n) (2 * m + 1) (λ e. omega (arith, e))

pub odd-even : (n m : ℕ) → nat_eq (2 * n + 1) (2 * m) ≡ false
odd-even n m = ne_eqb (2 * n + 1) (2 * m) (λ e. omega (arith, e))

pub even-even : (n m : ℕ) → nat_eq (2 * n) (2 * m) ≡ nat_eq n m
even-even n m = go (nat_eq n m) refl where
  go : (b : Bool) → nat_eq n m ≡ b → nat_eq (2 * n) (2 * m) ≡ b
  go true e = let k = eqb-true n m e in eq-eqb (2 * n) (2 * m) (ap (λ (x : ℕ). 2 * x) k)
  go false e = ne_eqb (2 * n) (2 * m) (λ k. let same : n ≡ m = omega (arith, k) in (let f : nat_eq n m ≡ true = eq-eqb n m same in (let g : ⊥ = cc in g)))

pub odd-odd : (n m : ℕ) → nat_eq (2 * n + 1) (2 * m + 1) ≡ nat_eq n m
odd-odd n m = go (nat_eq n m) refl where
  go : (b : Bool) → nat_eq n m ≡ b → nat_eq (2 * n + 1) (2 * m + 1) ≡ b
  go true e = let k = eqb-true n m e in eq-eqb (2 * n + 1) (2 * m + 1) (ap (λ (x : ℕ). 2 * x + 1) k)
  go false e = ne_eqb (2 * n + 1) (2 * m + 1) (λ k. let same : n ≡ m = omega (arith, k) in (let f : nat_eq n m ≡ true = eq-eqb n m same in (let g : ⊥ = cc in g)))
