-- Lists that begin with others.
use Rattle.std.proofs.Common.{ℕ, zero, suc, ◌≡◌, ◌∙◌, ◌+◌, ◌<◌, ◌≤◌, List, [], ◌∷◌, ◌++◌, length, map, take, slice_get, Some, refl, sym, ap, subst, arith, append_assoc, length-append}
use Rattle.std.specs.List.{AllByRecursion}
use Rattle.std.proofs.lemmas.List.{append-nil, map-append}
use Rattle.fo_super.specs.Passives.{IsFrontOf}
use Rattle.fo_super.proofs.Never.{get-front}

pub front-same : {X : Type 0} (xs : List X) → IsFrontOf xs xs
front-same xs = ([], sym (append-nil xs))

pub front-equal : {X : Type 0} (xs ys : List X) → ys ≡ xs → IsFrontOf xs ys
front-equal xs ys e = ([], e ∙ sym (append-nil xs))

pub front-pushed : {X : Type 0} (xs ys : List X) (x : X) → ys ≡ xs ++ x ∷ [] → IsFrontOf xs ys
front-pushed xs ys x e = (x ∷ [], e)

pub front-trans : {X : Type 0} (xs ys zs : List X) → IsFrontOf xs ys → IsFrontOf ys zs → IsFrontOf xs zs
front-trans {X} xs ys zs h k = (h.0 ++ k.0, k.1 ∙ ap (λ (x : List X). x ++ k.0) h.1 ∙ append_assoc xs h.0 k.0)

pub front-get : {X : Type 0} (xs ys : List X) (i : ℕ) (x : X) → IsFrontOf xs ys → slice_get xs i ≡ Some x → slice_get ys i ≡ Some x
front-get {X} xs ys i x h e = ap (λ (z : List X). slice_get z i) h.1 ∙ get-front xs h.0 i x e

pub front-within : {X : Type 0} (xs ys : List X) (i : ℕ) → IsFrontOf xs ys → i < length xs → i < length ys
front-within xs ys i h l = let e : length ys ≡ length xs + length h.0 = ap length h.1 ∙ length-append xs h.0 in omega arith

pub front-long : {X : Type 0} (xs ys : List X) → IsFrontOf xs ys → length xs ≤ length ys
front-long xs ys h = let e : length ys ≡ length xs + length h.0 = ap length h.1 ∙ length-append xs h.0 in omega arith

-- cut back to the front
pub front-cut : {X : Type 0} (xs ys : List X) (n : ℕ) → IsFrontOf xs ys → n ≡ length xs → take n ys ≡ xs
front-cut {X} xs ys n h e = ap (λ m. take m ys) e ∙ ap (take (length xs)) h.1 ∙ go xs h.0
  where
    go : (us vs : List X) → take (length us) (us ++ vs) ≡ us
    go [] vs = refl
    go (u ∷ us) vs = ap (λ (z : List X). u ∷ z) (go us vs)

-- an item behind a map
pub map-get : {X Y : Type 0} (f : X → Y) (xs : List X) (i : ℕ) (y : Y) → slice_get (map f xs) i ≡ Some y → (x : X) × (slice_get xs i ≡ Some x) × (f x ≡ y)
map-get f [] i y e = absurd (let g : ⊥ = cc in g)
map-get f (x ∷ xs) zero y e = (x, refl, (let g : f x ≡ y = cc in g))
map-get f (x ∷ xs) (suc i) y e = map-get f xs i y e

pub get-some : {X : Type 0} (xs : List X) (i : ℕ) → i < length xs → (x : X) × (slice_get xs i ≡ Some x)
get-some [] i l = absurd (omega arith)
get-some (x ∷ xs) zero l = (x, refl)
get-some (x ∷ xs) (suc i) l = get-some xs i (omega arith)
