-- Lists: what holds at each place, lookups in mapped lists, and fronts that grow.
use Rattle.std.proofs.Common.{ℕ, zero, suc, ◌≡◌, ◌∙◌, ◌+◌, ◌<◌, ◌≤◌, Bool, true, false, ◌||◌, List, [], ◌∷◌, ◌++◌, length, map, take, slice_get, slice_index_or, Some, None, refl, sym, ap, arith, ◌⊎◌, inl, inr}
use Rattle.std.specs.Bool.{if◌then◌else◌}
use Rattle.std.specs.List.{list_any}
use Rattle.std.specs.Option.{option_map}
use Rattle.std.proofs.lemmas.List.{take_more}

-- lookups
pub get-index : {X : Type 0} (xs : List X) (i : ℕ) (x : X) → i < length xs → x ≡ slice_index_or xs i x → slice_get xs i ≡ Some x
get-index [] i x l e = absurd (omega arith)
get-index (y ∷ xs) zero x l e = ap Some (sym e)
get-index (y ∷ xs) (suc i) x l e = get-index xs i x (omega arith) e

pub get-map : {X Y : Type 0} (f : X → Y) (xs : List X) (i : ℕ) → slice_get (map f xs) i ≡ option_map f (slice_get xs i)
get-map f [] i = refl
get-map f (x ∷ xs) zero = refl
get-map f (x ∷ xs) (suc i) = get-map f xs i

pub get-none : {X : Type 0} (xs : List X) (i : ℕ) → length xs ≤ i → slice_get xs i ≡ None
get-none [] i l = refl
get-none (x ∷ xs) zero l = absurd (omega arith)
get-none (x ∷ xs) (suc i) l = get-none xs i (omega arith)

pub get-within : {X : Type 0} (xs : List X) (i : ℕ) (x : X) → slice_get xs i ≡ Some x → i < length xs
get-within [] i x e = absurd (cc)
get-within (y ∷ xs) zero x e = omega arith
get-within (y ∷ xs) (suc i) x e = let h = get-within xs i x e in omega arith

pub length-map : {X Y : Type 0} (f : X → Y) (xs : List X) → length (map f xs) ≡ length xs
length-map f [] = refl
length-map f (x ∷ xs) = ap suc (length-map f xs)

pub get-mapped : {X Y : Type 0} (f : X → Y) (xs : List X) (i : ℕ) (x : X) → i < length xs → x ≡ slice_index_or xs i x → slice_get (map f xs) i ≡ Some (f x)
get-mapped f xs i x l e = get-map f xs i ∙ rw (get-index xs i x l e) refl

-- what holds at each place
abbrev pub EachAt : {X : Type 0} → (X → Type 0) → List X → Type 0
EachAt {X} P xs = (i : ℕ) (x : X) → slice_get xs i ≡ Some x → P x

pub any-at : {X : Type 0} (P : X → Type 0) (Q : Type 0) (test : X → Bool) → ((x : X) → test x ≡ true → P x → Q) → (xs : List X) → EachAt P xs → list_any test xs ≡ true → Q
any-at P Q test here [] all h = absurd (cc)
any-at P Q test here (x ∷ xs) all h = step (test x) (list_any test xs) (λ e. here x e (all zero x refl)) (any-at P Q test here xs (λ i y e. all (suc i) y e)) h
  where
    step : (b d : Bool) → (b ≡ true → Q) → (d ≡ true → Q) → (b || d) ≡ true → Q
    step true d f g h = f refl
    step false d f g h = g h

pub end-only : {X : Type 0} (xs : List X) (x : X) (i : ℕ) (y : X) → slice_get (xs ++ x ∷ []) i ≡ Some y → (slice_get xs i ≡ Some y) ⊎ (x ≡ y)
end-only [] x zero y h = inr (cc)
end-only [] x (suc i) y h = absurd (cc)
end-only (z ∷ xs) x zero y h = inl h
end-only (z ∷ xs) x (suc i) y h = end-only xs x i y h

pub each-more : {X : Type 0} (P : X → Type 0) (b : Bool) (xs : List X) (x : X) → EachAt P xs → P x → EachAt P (if b then xs else xs ++ x ∷ [])
each-more P true xs x all here i y e = all i y e
each-more P false xs x all here i y e =
    elim (end-only xs x i y e) [
      | inl h ↦ all i y h
      | inr h ↦ rw (← h) here
    ]

-- the same by recursion, for fronts that grow in a loop
abbrev pub Each : {X : Type 0} → (X → Type 0) → List X → Type 0
Each P [] = Unit {0}
Each P (x ∷ xs) = P x × Each P xs

pub each-get : {X : Type 0} (P : X → Type 0) (xs : List X) (i : ℕ) (x : X) → Each P xs → slice_get xs i ≡ Some x → P x
each-get P [] i x all e = absurd (cc)
each-get P (y ∷ xs) zero x all e = let h : y ≡ x = cc in rw (← h) all.0
each-get P (y ∷ xs) (suc i) x all e = each-get P xs i x all.1 e

pub each-index : {X : Type 0} (P : X → Type 0) (xs : List X) (i : ℕ) (x : X) → Each P xs → i < length xs → x ≡ slice_index_or xs i x → P x
each-index P xs i x all l e = each-get P xs i x all (get-index xs i x l e)

each-end : {X : Type 0} (P : X → Type 0) (xs : List X) (x : X) → Each P xs → P x → Each P (xs ++ x ∷ [])
each-end P [] x all h = (h, tt)
each-end P (y ∷ xs) x all h = (all.0, each-end P xs x all.1 h)

pub each-next : {X : Type 0} (P : X → Type 0) (xs : List X) (i : ℕ) (x : X) → Each P (take i xs) → i < length xs → x ≡ slice_index_or xs i x → P x → Each P (take (i + 1) xs)
each-next P xs i x all l e h =
    let t : take (i + 1) xs ≡ take i xs ++ x ∷ [] = take_more xs i x l ∙ ap (λ z. take i xs ++ z ∷ []) (sym e) in
    rw t (each-end P (take i xs) x all h)

pub each-whole : {X : Type 0} (P : X → Type 0) (xs : List X) (n : ℕ) → length xs ≤ n → Each P (take n xs) → Each P xs
each-whole P [] n l all = tt
each-whole P (x ∷ xs) zero l all = absurd (omega arith)
each-whole P (x ∷ xs) (suc n) l all = (all.0, each-whole P xs n (omega arith) all.1)

-- booleans that hold together
pub same-answer : (p q : Bool) → (p ≡ true → q ≡ true) → (q ≡ true → p ≡ true) → p ≡ q
same-answer true q f g = sym (f refl)
same-answer false true f g = g refl
same-answer false false f g = refl
