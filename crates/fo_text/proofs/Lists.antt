-- Lists that begin alike.
use Rattle.std.proofs.Common.{ℕ, ◌≡◌, List, [], ◌∷◌, ◌++◌, refl, sym, ◌⊎◌, inl, inr}
use Rattle.std.specs.List.{AllByRecursion}

-- of two fronts of one list one begins with the other
pub either_front : (xs ys p q : List ℕ) → xs ++ p ≡ ys ++ q → ((r : List ℕ) × (ys ≡ xs ++ r) × (p ≡ r ++ q)) ⊎ ((c : ℕ) × (r : List ℕ) × (xs ≡ ys ++ c ∷ r) × (q ≡ c ∷ (r ++ p)))
either_front [] ys p q e = inl (ys, refl, e)
either_front (x ∷ xs) [] p q e = inr (x, xs, refl, sym e)
either_front (x ∷ xs) (y ∷ ys) p q e =
    let h : x ≡ y = cc in
    let t : xs ++ p ≡ ys ++ q = cc in
    elim (either_front xs ys p q t) [
      | inl w ↦ (let k : ys ≡ xs ++ w.0 = w.1 in inl (w.0, cc, w.2))
      | inr w ↦ (let k : xs ≡ ys ++ w.0 ∷ w.1 = w.2 in inr (w.0, w.1, cc, w.3))
    ]

pub append-cancel : (w p q : List ℕ) → w ++ p ≡ w ++ q → p ≡ q
append-cancel [] p q e = e
append-cancel (x ∷ w) p q e = append-cancel w p q cc

pub All-append : {X : Type 0} (P : X → Type 0) (xs ys : List X) → AllByRecursion P xs → AllByRecursion P ys → AllByRecursion P (xs ++ ys)
All-append P [] ys a b = b
All-append P (x ∷ xs) ys a b = (a.0, All-append P xs ys a.1 b)

pub All-front : {X : Type 0} (P : X → Type 0) (xs ys : List X) → AllByRecursion P (xs ++ ys) → AllByRecursion P xs
All-front P [] ys a = tt
All-front P (x ∷ xs) ys a = (a.0, All-front P xs ys a.1)

pub All-back : {X : Type 0} (P : X → Type 0) (xs ys : List X) → AllByRecursion P (xs ++ ys) → AllByRecursion P ys
All-back P [] ys a = a
All-back P (x ∷ xs) ys a = All-back P xs ys a.1
