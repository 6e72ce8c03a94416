-- Lists that grew at their ends.
use Rattle.std.proofs.Common.{ℕ, zero, suc, ◌≡◌, ◌∙◌, ◌+◌, ◌<◌, ◌≤◌, ◌⊎◌, List, [], ◌∷◌, ◌++◌, length, map, take, slice_get, Some, refl, sym, ap, append-nil, arith}
use Rattle.std.specs.Prelude.{slice_index_or}
use Rattle.std.proofs.lemmas.List.{append_assoc, length-append, map-append}
use Rattle.std.proofs.Math.Seq.{take-append_seam}
use Rattle.leo_turn.specs.Growth.{IsLonger}

module _ {X : Type 0} where
  pub get-front : (xs ys : List X) (n : ℕ) (x : X) → slice_get xs n ≡ Some x → slice_get (xs ++ ys) n ≡ Some x
  get-front [] ys n x h = absurd cc
  get-front (z ∷ xs) ys zero x h = h
  get-front (z ∷ xs) ys (suc n) x h = get-front xs ys n x h

  pub get-last : (xs : List X) (x : X) → slice_get (xs ++ x ∷ []) (length xs) ≡ Some x
  get-last [] x = refl
  get-last (y ∷ xs) x = get-last xs x

  pub get-front_same : (xs ys : List X) (n : ℕ) → n < length xs → slice_get (xs ++ ys) n ≡ slice_get xs n
  get-front_same [] ys n h = absurd (let f : ⊥ = omega arith in f)
  get-front_same (z ∷ xs) ys zero h = refl
  get-front_same (z ∷ xs) ys (suc n) h = get-front_same xs ys n (omega arith)

  pub get-within : (xs : List X) (n : ℕ) (x : X) → slice_get xs n ≡ Some x → n < length xs
  get-within [] n x h = absurd cc
  get-within (y ∷ xs) zero x h = omega arith
  get-within (y ∷ xs) (suc n) x h = let k = get-within xs n x h in omega arith

  -- an item that came to the end stands in the front or is the last
  pub get-added : (P : ℕ → X → Type 0) (xs : List X) (x : X) → ((n : ℕ) (y : X) → slice_get xs n ≡ Some y → P n y) → P (length xs) x → (n : ℕ) (y : X) → slice_get (xs ++ x ∷ []) n ≡ Some y → P n y
  get-added P [] x f p zero y h = let e : x ≡ y = cc in rw (← e) p
  get-added P [] x f p (suc n) y h = absurd cc
  get-added P (z ∷ xs) x f p zero y h = f zero y h
  get-added P (z ∷ xs) x f p (suc n) y h = get-added (λ m u. P (suc m) u) xs x (λ m u. f (suc m) u) p n y h

  pub longer-itself : (xs : List X) → IsLonger xs xs
  longer-itself xs = record { more = []; is = sym (append-nil xs) }

  pub longer-same : {xs ys : List X} → ys ≡ xs → IsLonger xs ys
  longer-same {xs} {ys} e = record { more = []; is = e ∙ sym (append-nil xs) }

  pub longer-pushed : {xs ys : List X} (x : X) → ys ≡ xs ++ x ∷ [] → IsLonger xs ys
  longer-pushed {xs} {ys} x e = record { more = x ∷ []; is = e }

  pub longer-trans : {xs ys zs : List X} → IsLonger xs ys → IsLonger ys zs → IsLonger xs zs
  longer-trans {xs} {ys} {zs} p q = record { more = p.more ++ q.more; is = q.is ∙ ap (λ (us : List X). us ++ q.more) p.is ∙ append_assoc xs p.more q.more }

  pub longer-length : {xs ys : List X} → IsLonger xs ys → length xs ≤ length ys
  longer-length {xs} {ys} p = let e : length ys ≡ length xs + length p.more = ap length p.is ∙ length-append xs p.more in omega arith

  pub longer-cut : {xs ys : List X} → IsLonger xs ys → take (length xs) ys ≡ xs
  longer-cut {xs} {ys} p = ap (take (length xs)) p.is ∙ take-append_seam xs p.more

  pub longer-get : {xs ys : List X} → IsLonger xs ys → (n : ℕ) (x : X) → slice_get xs n ≡ Some x → slice_get ys n ≡ Some x
  longer-get {xs} {ys} p n x h = rw p.is (get-front xs p.more n x h)

pub longer-map : {X Y : Type 0} (f : X → Y) {xs ys : List X} → IsLonger xs ys → IsLonger (map f xs) (map f ys)
longer-map f {xs} {ys} p = record { more = map f p.more; is = ap (map f) p.is ∙ map-append f xs p.more }

pub length-map : {X Y : Type 0} (f : X → Y) (xs : List X) → length (map f xs) ≡ length xs
length-map f [] = refl
length-map f (x ∷ xs) = ap suc (length-map f xs)

pub some-same : {X : Type 0} (x y : X) → Some x ≡ Some y → x ≡ y
some-same x y e = cc

pub map-fused : {X Y Z : Type 0} (f : Y → Z) (g : X → Y) (xs : List X) → map f (map g xs) ≡ map (λ x. f (g x)) xs
map-fused f g [] = refl
map-fused {X} {Y} {Z} f g (x ∷ xs) = ap (λ (zs : List Z). f (g x) ∷ zs) (map-fused f g xs)

pub map-agree : {X Y : Type 0} (f g : X → Y) (xs : List X) → ((n : ℕ) (x : X) → slice_get xs n ≡ Some x → f x ≡ g x) → map f xs ≡ map g xs
map-agree f g [] h = refl
map-agree {X} {Y} f g (x ∷ xs) h = ap (λ (y : Y). y ∷ map f xs) (h zero x refl) ∙ ap (λ (ys : List Y). g x ∷ ys) (map-agree f g xs (λ n u e. h (suc n) u e))

-- an item that a mapped list has
pub get-made : {X Y : Type 0} (f : X → Y) (xs : List X) (n : ℕ) (y : Y) → slice_get (map f xs) n ≡ Some y → (x : X) × ((slice_get xs n ≡ Some x) × (f x ≡ y))
get-made f [] n y e = absurd cc
get-made f (x ∷ xs) zero y e = (x, (refl, cc))
get-made f (x ∷ xs) (suc n) y e = get-made f xs n y e

pub get-there : {X : Type 0} (xs : List X) (i : ℕ) → i < length xs → (x : X) × (slice_get xs i ≡ Some x)
get-there [] i l = absurd (let f : ⊥ = omega arith in f)
get-there (x ∷ xs) zero l = (x, refl)
get-there (x ∷ xs) (suc i) l = get-there xs i (omega arith)

pub take-all : {X : Type 0} (n : ℕ) (xs : List X) → length xs ≤ n → take n xs ≡ xs
take-all zero [] l = refl
take-all zero (x ∷ xs) l = absurd (let f : ⊥ = omega arith in f)
take-all (suc n) [] l = refl
take-all {X} (suc n) (x ∷ xs) l = ap (λ (ys : List X). x ∷ ys) (take-all n xs (omega arith))

pub get-map : {X Y : Type 0} (f : X → Y) (xs : List X) (i : ℕ) (x : X) → slice_get xs i ≡ Some x → slice_get (map f xs) i ≡ Some (f x)
get-map f [] i x e = absurd cc
get-map f (y ∷ xs) zero x e = let g : y ≡ x = cc in rw g refl
get-map f (y ∷ xs) (suc i) x e = get-map f xs i x e

pub take-next : {X : Type 0} (xs : List X) (i : ℕ) (x : X) → slice_get xs i ≡ Some x → take (i + 1) xs ≡ take i xs ++ x ∷ []
take-next [] i x e = absurd cc
take-next (y ∷ xs) zero x e = let f : y ≡ x = cc in rw f refl
take-next {X} (y ∷ xs) (suc i) x e = (let f : suc i + 1 ≡ suc (i + 1) = omega arith in rw f (ap (λ (ys : List X). y ∷ ys) (take-next xs i x e)))

-- an item that a loop looks at
pub stands-at : {X : Type 0} (xs : List X) (i : ℕ) (x : X) → i < length xs → x ≡ slice_index_or xs i x → slice_get xs i ≡ Some x
stands-at [] i x l e = absurd (let f : ⊥ = omega arith in f)
stands-at (y ∷ xs) zero x l e = let f : x ≡ y = e in rw f refl
stands-at (y ∷ xs) (suc i) x l e = stands-at xs i x (omega arith) e

pub stands-there : (xs : List ℕ) (i : ℕ) → i < length xs → slice_get xs i ≡ Some (slice_index_or xs i 0)
stands-there [] i l = absurd (let f : ⊥ = omega arith in f)
stands-there (x ∷ xs) zero l = refl
stands-there (x ∷ xs) (suc i) l = stands-there xs i (omega arith)

pub below-last : (m n : ℕ) → m < suc n → (m < n) ⊎ (m ≡ n)
below-last m n h = grind arith
