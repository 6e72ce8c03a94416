-- What holds of two lists, item by item.
use Rattle.std.proofs.Common.{ℕ, zero, suc, ◌≡◌, ◌∙◌, ◌+◌, ◌<◌, ◌≤◌, List, [], ◌∷◌, ◌++◌, length, take, slice_index_or, refl, sym, ap, arith}
use Rattle.std.proofs.lemmas.List.{take_more}

abbrev pub Pairs : {X : Type 0} → (X → X → Type 0) → List X → List X → Type 0
Pairs R [] [] = Unit {0}
Pairs R [] (y ∷ ys) = ⊥
Pairs R (x ∷ xs) [] = ⊥
Pairs R (x ∷ xs) (y ∷ ys) = R x y × Pairs R xs ys

pub pairs-length : {X : Type 0} (R : X → X → Type 0) (xs ys : List X) → Pairs R xs ys → length xs ≡ length ys
pairs-length R [] [] h = refl
pairs-length R [] (y ∷ ys) h = absurd h
pairs-length R (x ∷ xs) [] h = absurd h
pairs-length R (x ∷ xs) (y ∷ ys) h = ap suc (pairs-length R xs ys h.1)

pub pairs-index : {X : Type 0} (R : X → X → Type 0) (xs ys : List X) (i : ℕ) (x y : X) → Pairs R xs ys → i < length xs → i < length ys → x ≡ slice_index_or xs i x → y ≡ slice_index_or ys i y → R x y
pairs-index R [] ys i x y h l k e f = absurd (omega arith)
pairs-index R (a ∷ xs) [] i x y h l k e f = absurd (omega arith)
pairs-index R (a ∷ xs) (b ∷ ys) zero x y h l k e f = rw (e, f) h.0
pairs-index R (a ∷ xs) (b ∷ ys) (suc i) x y h l k e f = pairs-index R xs ys i x y h.1 (omega arith) (omega arith) e f

pairs-end : {X : Type 0} (R : X → X → Type 0) (xs ys : List X) (x y : X) → Pairs R xs ys → R x y → Pairs R (xs ++ x ∷ []) (ys ++ y ∷ [])
pairs-end R [] [] x y h r = (r, tt)
pairs-end R [] (b ∷ ys) x y h r = absurd h
pairs-end R (a ∷ xs) [] x y h r = absurd h
pairs-end R (a ∷ xs) (b ∷ ys) x y h r = (h.0, pairs-end R xs ys x y h.1 r)

pub pairs-next : {X : Type 0} (R : X → X → Type 0) (xs ys : List X) (i : ℕ) (x y : X) → Pairs R (take i xs) (take i ys) → i < length xs → i < length ys → x ≡ slice_index_or xs i x → y ≡ slice_index_or ys i y → R x y → Pairs R (take (i + 1) xs) (take (i + 1) ys)
pairs-next R xs ys i x y h l k e f r =
    let s : take (i + 1) xs ≡ take i xs ++ x ∷ [] = take_more xs i x l ∙ ap (λ z. take i xs ++ z ∷ []) (sym e) in
    let t : take (i + 1) ys ≡ take i ys ++ y ∷ [] = take_more ys i y k ∙ ap (λ z. take i ys ++ z ∷ []) (sym f) in
    rw (s, t) (pairs-end R (take i xs) (take i ys) x y h r)

pub pairs-whole : {X : Type 0} (R : X → X → Type 0) (xs ys : List X) (n : ℕ) → length xs ≤ n → length xs ≡ length ys → Pairs R (take n xs) (take n ys) → Pairs R xs ys
pairs-whole R [] [] n l e h = tt
pairs-whole R [] (y ∷ ys) n l e h = absurd (omega arith)
pairs-whole R (x ∷ xs) [] n l e h = absurd (omega arith)
pairs-whole R (x ∷ xs) (y ∷ ys) zero l e h = absurd (omega arith)
pairs-whole R (x ∷ xs) (y ∷ ys) (suc n) l e h = (h.0, pairs-whole R xs ys n (omega arith) (omega arith) h.1)
