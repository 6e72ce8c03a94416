-- Lists whose items stand once, and lists that have gained items.
use Rattle.std.proofs.lemmas.List.{map-append, take-map, take_more}
use Rattle.std.proofs.Common.{ℕ, zero, suc, ◌≡◌, ◌+◌, ◌<◌, ◌||◌, Bool, true, false, List, [], ◌∷◌, ◌++◌, length, map, take, get_or, slice_get, Some, refl, sym, ◌∙◌, ap, ◌⊎◌, inl, inr, arith}
use Rattle.std.specs.List.{IsDistinct, AllByRecursion, list_any}
use Rattle.indexmap.specs.IndexSet.{insert_key}
use Rattle.std.specs.Bool.{if◌then◌else◌}
use Rattle.leo_terms.specs.Contents.{IsShared, IsKept, AddsShared}

module _ {X : Type 0} where
  pub slice_get-append : (xs ys : List X) (i : ℕ) (x : X) → slice_get xs i ≡ Some x → slice_get (xs ++ ys) i ≡ Some x
  slice_get-append [] ys i x h = cc
  slice_get-append (z ∷ xs) ys zero x h = h
  slice_get-append (z ∷ xs) ys (suc i) x h = slice_get-append xs ys i x h

  pub IsKept-same : (xs ys : List X) → ys ≡ xs → IsKept xs ys
  IsKept-same xs ys e i x h = rw e h

  pub IsKept-append : (xs ys : List X) → IsKept xs (xs ++ ys)
  IsKept-append xs ys i x h = slice_get-append xs ys i x h

  pub IsKept-insert : (b : Bool) (xs ys : List X) → IsKept xs (if b then xs else xs ++ ys)
  IsKept-insert true xs ys i x h = h
  IsKept-insert false xs ys i x h = slice_get-append xs ys i x h

  pub apart-slice_get : (P : X → Type 0) (xs : List X) → AllByRecursion P xs → (i : ℕ) (x : X) → slice_get xs i ≡ Some x → P x
  apart-slice_get P [] a i x h = absurd (cc)
  apart-slice_get P (z ∷ xs) a zero x h = let e : z ≡ x = cc in rw e at a.0
  apart-slice_get P (z ∷ xs) a (suc i) x h = apart-slice_get P xs a.1 i x h

  pub IsShared-distinct : (eq : X → X → Bool) → ((x : X) → eq x x ≡ true) → (xs : List X) → IsDistinct eq xs → IsShared xs
  unfolding IsDistinct
  IsShared-distinct eq same [] d i j x h k = absurd (cc)
  IsShared-distinct eq same (z ∷ xs) d zero zero x h k = refl
  IsShared-distinct eq same (z ∷ xs) d zero (suc j) x h k =
      let e : z ≡ x = cc in
      let f : eq z x ≡ false = apart-slice_get (λ y. eq z y ≡ false) xs d.0 j x k in
      let g : eq z x ≡ true = rw (← e) (same z) in
      absurd (cc)
  IsShared-distinct eq same (z ∷ xs) d (suc i) zero x h k =
      let e : z ≡ x = cc in
      let f : eq z x ≡ false = apart-slice_get (λ y. eq z y ≡ false) xs d.0 i x h in
      let g : eq z x ≡ true = rw (← e) (same z) in
      absurd (cc)
  IsShared-distinct eq same (z ∷ xs) d (suc i) (suc j) x h k =
      ap suc (IsShared-distinct eq same xs d.1 i j x h k)

  insert_only : (b : Bool) (xs : List X) (x : X) (i : ℕ) (y : X) → slice_get (if b then xs else xs ++ x ∷ []) i ≡ Some y → (slice_get xs i ≡ Some y) ⊎ ((i ≡ length xs) × (y ≡ x))
  insert_only true xs x i y h = inl h
  insert_only false [] x zero y h = inr (refl, cc)
  insert_only false [] x (suc i) y h = absurd (cc)
  insert_only false (z ∷ xs) x zero y h = inl h
  insert_only false (z ∷ xs) x (suc i) y h =
      elim (insert_only false xs x i y h) [ inl k ↦ inl k | inr k ↦ inr (ap suc k.0, k.1) ]

  pub AddsShared-insert : (eq : X → X → Bool) → ((x : X) → eq x x ≡ true) → (b : Bool) (old new : List X) (x : X) (n : ℕ) → IsDistinct eq new → new ≡ (if b then old else old ++ x ∷ []) → slice_get new n ≡ Some x → AddsShared old new x n
  AddsShared-insert eq same b old new x n d e stored = record {
    stored = stored;
    kept = rw e (IsKept-insert b old (x ∷ []));
    only = λ i y h. insert_only b old x i y (rw e at h);
    shared = IsShared-distinct eq same new d;
  }

  pub append_only : (xs : List X) (x : X) (i : ℕ) (y : X) → slice_get (xs ++ x ∷ []) i ≡ Some y → (slice_get xs i ≡ Some y) ⊎ ((i ≡ length xs) × (y ≡ x))
  append_only xs x i y h = insert_only false xs x i y h

  place_of_any : (p : X → Bool) (xs : List X) → list_any p xs ≡ true → (j : ℕ) × (y : X) × (slice_get xs j ≡ Some y) × (p y ≡ true)
  place_of_any p [] h = absurd (cc)
  place_of_any p (x ∷ xs) h = at (p x) refl h (λ k. place_of_any p xs k)
    where
      at : (b : Bool) → p x ≡ b → (b || list_any p xs) ≡ true → (list_any p xs ≡ true → (j : ℕ) × (y : X) × (slice_get xs j ≡ Some y) × (p y ≡ true)) → (j : ℕ) × (y : X) × (slice_get (x ∷ xs) j ≡ Some y) × (p y ≡ true)
      at true e h later = (0, x, refl, e)
      at false e h later = let w = later h in (suc w.0, w.1, w.2, w.3)

  slice_get-take : (i : ℕ) (xs : List X) (j : ℕ) (y : X) → slice_get (take i xs) j ≡ Some y → (j < i) × (slice_get xs j ≡ Some y)
  slice_get-take zero xs j y h = absurd (cc)
  slice_get-take (suc i) [] j y h = absurd (cc)
  slice_get-take (suc i) (x ∷ xs) zero y h = (omega arith, h)
  slice_get-take (suc i) (x ∷ xs) (suc j) y h = let w = slice_get-take i xs j y h in (omega arith, w.1)

  take-next : (i : ℕ) (xs : List X) (x : X) → slice_get xs i ≡ Some x → take (i + 1) xs ≡ take i xs ++ x ∷ []
  take-next i xs x h = rw (one i) (step i xs h)
    where
      one : (i : ℕ) → i + 1 ≡ suc i
      one i = omega arith

      step : (i : ℕ) (xs : List X) → slice_get xs i ≡ Some x → take (suc i) xs ≡ take i xs ++ x ∷ []
      step i [] h = absurd (cc)
      step zero (y ∷ xs) h = let e : y ≡ x = cc in rw e refl
      step (suc i) (y ∷ xs) h = ap (λ ys. y ∷ ys) (step i xs h)

  -- a set's nodes up to a place, with the node there
  pub insert_key-next : (eq : X → X → Bool) → ((x : X) → eq x x ≡ true) → ((x y : X) → eq x y ≡ true → x ≡ y) → (xs : List X) → IsDistinct eq xs → (i : ℕ) (x : X) → slice_get xs i ≡ Some x → insert_key eq (take i xs) x ≡ take (i + 1) xs
  insert_key-next eq refl' same xs d i x h = at (list_any (eq x) (take i xs)) refl
    where
      at : (b : Bool) → list_any (eq x) (take i xs) ≡ b → insert_key eq (take i xs) x ≡ take (i + 1) xs
      at true e =
          let w = place_of_any (eq x) (take i xs) e in
          let v = slice_get-take i xs w.0 w.1 w.2 in
          let s : x ≡ w.1 = same x w.1 w.3 in
          let n : i ≡ w.0 = IsShared-distinct eq refl' xs d i w.0 x h (rw (← s) at v.1) in
          absurd (omega arith)
      at false e = rw e (sym (take-next i xs x h))

-- the images of a list's items up to a place, with that of the item there
pub map-next : {X Y : Type 0} (f : X → Y) (xs ys : List X) (i : ℕ) (x y : X) → i < length xs → x ≡ get_or xs i x → map f ys ≡ take i (map f xs) → f y ≡ f x → map f (ys ++ y ∷ []) ≡ take (i + 1) (map f xs)
map-next f xs ys i x y l is e q =
    let t : take (i + 1) xs ≡ take i xs ++ x ∷ [] = take_more xs i x l ∙ ap (λ z. take i xs ++ z ∷ []) (sym is) in
    let u : take (i + 1) (map f xs) ≡ take i (map f xs) ++ f x ∷ [] = take-map f (i + 1) xs ∙ rw t (map-append f (take i xs) (x ∷ []) ∙ ap (λ zs. zs ++ f x ∷ []) (sym (take-map f i xs))) in
    map-append f ys (y ∷ []) ∙ rw (e, q) (sym u)
