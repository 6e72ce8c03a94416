-- Places of lists.
use Rattle.std.proofs.Common.{ℕ, zero, suc, ◌≡◌, ◌∙◌, ◌+◌, ◌-◌, ◌<◌, ◌≤◌, List, [], ◌∷◌, ◌++◌, length, map, take, drop, slice_get, slice_index_or, Some, refl, sym, ap, arith}

pub some-same : {X : Type 0} (x y : X) → Some x ≡ Some y → x ≡ y
some-same x y e = cc

pub get-at : {X : Type 0} (xs : List X) (i : ℕ) (x : X) → i < length xs → x ≡ slice_index_or xs i x → slice_get xs i ≡ Some x
get-at [] i x l e = absurd (omega arith)
get-at (y ∷ xs) zero x l e = ap Some (sym e)
get-at (y ∷ xs) (suc i) x l e = get-at xs i x (omega arith) e

pub get-mapped : {X Y : Type 0} (f : X → Y) (xs : List X) (i : ℕ) (x : X) → slice_get xs i ≡ Some x → slice_get (map f xs) i ≡ Some (f x)
get-mapped f [] i x e = absurd (cc)
get-mapped f (y ∷ xs) zero x e = ap (λ z. Some (f z)) (some-same y x e)
get-mapped f (y ∷ xs) (suc i) x e = get-mapped f xs i x e

pub drop-at : {X : Type 0} (xs : List X) (p : ℕ) (x : X) → slice_get xs p ≡ Some x → drop p xs ≡ x ∷ drop (suc p) xs
drop-at [] p x e = absurd (cc)
drop-at (y ∷ xs) zero x e = ap (λ z. z ∷ xs) (some-same y x e)
drop-at (y ∷ xs) (suc p) x e = drop-at xs p x e

pub take-at : {X : Type 0} (xs : List X) (p : ℕ) (x : X) → slice_get xs p ≡ Some x → take (suc p) xs ≡ take p xs ++ x ∷ []
take-at [] p x e = absurd (cc)
take-at (y ∷ xs) zero x e = ap (λ z. z ∷ []) (some-same y x e)
take-at (y ∷ xs) (suc p) x e = ap (λ zs. y ∷ zs) (take-at xs p x e)

pub length-map : {X Y : Type 0} (f : X → Y) (xs : List X) → length (map f xs) ≡ length xs
length-map f [] = refl
length-map f (x ∷ xs) = ap suc (length-map f xs)

pub drop-all : {X : Type 0} (xs : List X) (n : ℕ) → length xs ≤ n → drop n xs ≡ []
drop-all [] zero l = refl
drop-all [] (suc n) l = refl
drop-all (x ∷ xs) zero l = absurd (omega arith)
drop-all (x ∷ xs) (suc n) l = drop-all xs n (omega arith)

-- how many stand behind a place
pub length-behind : {X : Type 0} (xs : List X) (p : ℕ) → p < length xs → suc p + length (drop (suc p) xs) ≡ length xs
length-behind [] p l = absurd (omega arith)
length-behind (x ∷ xs) zero l = omega arith
length-behind (x ∷ xs) (suc p) l = (let e = length-behind xs p (omega arith) in omega arith)

take-whole : {X : Type 0} (xs : List X) → take (length xs) xs ≡ xs
take-whole [] = refl
take-whole (x ∷ xs) = ap (λ zs. x ∷ zs) (take-whole xs)

take-none : {X : Type 0} (n : ℕ) → take {A = X} n [] ≡ []
take-none zero = refl
take-none (suc n) = refl

drop-none : {X : Type 0} (xs : List X) → drop 0 xs ≡ xs
drop-none [] = refl
drop-none (x ∷ xs) = refl

pub take-rest : {X : Type 0} (xs : List X) (n : ℕ) → take (length xs - n) (drop n xs) ≡ drop n xs
take-rest [] zero = refl
take-rest [] (suc n) = take-none (0 - suc n)
take-rest (x ∷ xs) zero = let e : length (x ∷ xs) - 0 ≡ length (x ∷ xs) = omega arith in rw e (take-whole (x ∷ xs))
take-rest (x ∷ xs) (suc n) = let e : suc (length xs) - suc n ≡ length xs - n = omega arith in rw e (take-rest xs n)

-- the first and the others
pub first-rest : {X : Type 0} (xs : List X) (x : X) → 1 ≤ length xs → x ≡ slice_index_or xs 0 x → xs ≡ x ∷ take (length xs - 1) (drop 1 xs)
first-rest [] x l e = absurd (omega arith)
first-rest (y ∷ xs) x l e =
    let d : drop 1 (y ∷ xs) ≡ xs = drop-none xs in
    let f : take (length (y ∷ xs) - 1) (drop 1 (y ∷ xs)) ≡ xs = take-rest (y ∷ xs) 1 ∙ d in
    let g : x ≡ y = e in
    rw (f, g) refl
