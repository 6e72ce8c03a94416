-- Answers of tests, and lookups in lists.
use Rattle.std.proofs.Common.{ℕ, zero, suc, nat_eq, ◌≡◌, ◌+◌, ◌<◌, ◌≤◌, Bool, true, false, List, [], ◌∷◌, length, slice_get, slice_index_or, Option, Some, refl, sym, ap, arith, inl, inr}
use Rattle.std.specs.Bool.{Decides}
use Rattle.std.proofs.lemmas.Bool.{cases_eq}
use Rattle.std.proofs.lemmas.Bool.Decides.{nat_tests}

pub no : {P : Type 0} → (P → ⊥) → Decides false P
no f = (λ e. (let h : ⊥ = cc in absurd h), λ p. absurd (f p))

pub yes : {P : Type 0} → P → Decides true P
yes p = (λ e. p, λ q. refl)

pub refuted : {P : Type 0} (b : Bool) → Decides b P → b ≡ false → P → ⊥
refuted b d e p = (let h : b ≡ true = d.1 p in cc)

pub same-number : (n : ℕ) → nat_eq n n ≡ true
same-number n = grind (arith, nat_tests)

pub equal-numbers : (m n : ℕ) → nat_eq m n ≡ true → m ≡ n
equal-numbers m n h = grind (arith, nat_tests)

pub other-number : (m n : ℕ) → (m ≡ n → ⊥) → nat_eq m n ≡ false
other-number m n h = grind (arith, nat_tests)

pub number-decides : (m n : ℕ) → Decides (nat_eq m n) (m ≡ n)
number-decides m n = (equal-numbers m n, λ e. rw e (same-number n))

pub get-index : {X : Type 0} (xs : List X) (i : ℕ) (x : X) → i < length xs → x ≡ slice_index_or xs i x → slice_get xs i ≡ Some x
get-index [] i x l e = absurd (omega arith)
get-index (y ∷ xs) zero x l e = ap Some (sym e)
get-index (y ∷ xs) (suc i) x l e = get-index xs i x (omega arith) e

pub get-within : {X : Type 0} (xs : List X) (i : ℕ) (x : X) → slice_get xs i ≡ Some x → i < length xs
get-within [] i x e = absurd (let f : ⊥ = cc in f)
get-within (y ∷ xs) zero x e = omega arith
get-within (y ∷ xs) (suc i) x e = let h = get-within xs i x e in omega arith

pub same-item : {X : Type 0} (o : Option X) (x y : X) → o ≡ Some x → o ≡ Some y → x ≡ y
same-item o x y e f = cc

-- no item before a place has the property
abbrev pub NoneBelow : {X : Type 0} → (X → Type 0) → List X → ℕ → Type 0
NoneBelow {X} P xs n = (i : ℕ) (x : X) → i < n → slice_get xs i ≡ Some x → P x → ⊥

pub none-next : {X : Type 0} (P : X → Type 0) (xs : List X) (n : ℕ) (x : X) → NoneBelow P xs n → slice_get xs n ≡ Some x → (P x → ⊥) → NoneBelow P xs (n + 1)
none-next P xs n x h e f i y l g p =
    elim (cases_eq i n) [
      | inl k ↦ f (let j : slice_get xs n ≡ Some y = rw k at g in let z : y ≡ x = same-item (slice_get xs n) y x j e in rw z at p)
      | inr k ↦ h i y (omega arith) g p
    ]

pub none-all : {X : Type 0} (P : X → Type 0) (xs : List X) (n : ℕ) → NoneBelow P xs n → length xs ≤ n → (i : ℕ) (x : X) → slice_get xs i ≡ Some x → P x → ⊥
none-all P xs n h l i x e p = h i x (let k = get-within xs i x e in omega arith) e p

-- a second test beside one that holds
pub decides-too : {P Q : Type 0} (b r : Bool) → Decides b Q → b ≡ true → Decides r P → Decides r (P × Q)
decides-too b r d e f = (λ t. (f.0 t, d.0 e), λ h. f.1 h.0)

pub decides-both : {P Q : Type 0} (b r : Bool) → Decides b P → b ≡ true → Decides r Q → Decides r (P × Q)
decides-both b r d e f = (λ t. (d.0 e, f.0 t), λ h. f.1 h.1)

pub not-both : {P Q : Type 0} (b : Bool) → Decides b P → b ≡ false → Decides false (P × Q)
not-both b d e = no (λ h. refuted b d e h.0)
