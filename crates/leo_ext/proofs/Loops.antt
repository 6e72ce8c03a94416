-- Lists that grow while the items of another list are gone through.
use Rattle.std.proofs.Common.{ℕ, zero, suc, ◌≡◌, ◌∙◌, ◌+◌, ◌<◌, ◌≤◌, List, [], ◌∷◌, ◌++◌, length, map, take, slice_index_or, refl, sym, ap, append_assoc, append-nil, arith}
use Rattle.std.proofs.lemmas.List.{map-append}
use Rattle.std.specs.List.{flat_map}
use Rattle.leo_clause.specs.Trees.{Literal}
use Rattle.leo_para.specs.Members.{each_literal}

pub take-more : {X : Type 0} (xs : List X) (i : ℕ) (x : X) → i < length xs → x ≡ slice_index_or xs i x → take (i + 1) xs ≡ take i xs ++ x ∷ []
take-more [] i x l e = absurd (omega arith)
take-more (y ∷ xs) zero x l e = rw e refl
take-more (y ∷ xs) (suc i) x l e = let f : suc i + 1 ≡ suc (i + 1) = omega arith in rw f (ap (λ (zs : List _). y ∷ zs) (take-more xs i x (omega arith) e))

pub take-all : {X : Type 0} (xs : List X) (i : ℕ) → length xs ≤ i → take i xs ≡ xs
take-all [] zero l = refl
take-all [] (suc i) l = refl
take-all (x ∷ xs) zero l = absurd (omega arith)
take-all (x ∷ xs) (suc i) l = ap (λ (zs : List _). x ∷ zs) (take-all xs i (omega arith))

length-front : {X : Type 0} (xs : List X) (i : ℕ) → i < length xs → length (take i xs) ≡ i
length-front [] i l = absurd (omega arith)
length-front (x ∷ xs) zero l = refl
length-front (x ∷ xs) (suc i) l = ap suc (length-front xs i (omega arith))

pub length-mapped : {X Y : Type 0} (f : X → Y) (xs : List X) → length (map f xs) ≡ length xs
length-mapped f [] = refl
length-mapped f (x ∷ xs) = ap suc (length-mapped f xs)

-- what is given for each literal
each-last : {Y : Type 0} (give : ℕ → Literal → List Y) (n m : ℕ) (ls : List Literal) (l : Literal) → m ≡ n + length ls → each_literal give n (ls ++ l ∷ []) ≡ each_literal give n ls ++ give m l
each-last give n m [] l e = let f : m ≡ n = omega arith in rw f (append-nil (give n l))
each-last give n m (k ∷ ls) l e = ap (λ (zs : List _). give n k ++ zs) (each-last give (suc n) m ls l (omega arith)) ∙ sym (append_assoc (give n k) (each_literal give (suc n) ls) (give m l))

pub each-next : {X Y : Type 0} (read : X → Literal) (give : ℕ → Literal → List Y) (xs : List X) (i : ℕ) (x : X) → i < length xs → x ≡ slice_index_or xs i x → each_literal give 0 (map read (take (i + 1) xs)) ≡ each_literal give 0 (map read (take i xs)) ++ give i (read x)
each-next read give xs i x l e =
    let u : map read (take (i + 1) xs) ≡ map read (take i xs) ++ read x ∷ [] = ap (map read) (take-more xs i x l e) ∙ map-append read (take i xs) (x ∷ []) in
    let n : length (map read (take i xs)) ≡ i = length-mapped read (take i xs) ∙ length-front xs i l in
    ap (each_literal give 0) u ∙ each-last give 0 i (map read (take i xs)) (read x) (omega arith)

-- what is given for each item
flat_map-last : {X Y : Type 0} (f : X → List Y) (xs : List X) (x : X) → flat_map f (xs ++ x ∷ []) ≡ flat_map f xs ++ f x
flat_map-last f [] x = append-nil (f x)
flat_map-last f (y ∷ xs) x = ap (λ (zs : List _). f y ++ zs) (flat_map-last f xs x) ∙ sym (append_assoc (f y) (flat_map f xs) (f x))

pub flat_map-next : {X Y Z : Type 0} (read : X → Z) (f : Z → List Y) (xs : List X) (i : ℕ) (x : X) → i < length xs → x ≡ slice_index_or xs i x → flat_map f (map read (take (i + 1) xs)) ≡ flat_map f (map read (take i xs)) ++ f (read x)
flat_map-next read f xs i x l e = ap (flat_map f) (ap (map read) (take-more xs i x l e) ∙ map-append read (take i xs) (x ∷ [])) ∙ flat_map-last f (map read (take i xs)) (read x)

pub map-next : {X Y : Type 0} (f : X → Y) (xs : List X) (i : ℕ) (x : X) → i < length xs → x ≡ slice_index_or xs i x → map f (take (i + 1) xs) ≡ map f (take i xs) ++ f x ∷ []
map-next f xs i x l e = ap (map f) (take-more xs i x l e) ∙ map-append f (take i xs) (x ∷ [])

pub mapped-next : {X Y Z : Type 0} (g : X → Y) (f : Y → Z) (xs : List X) (i : ℕ) (x : X) → i < length xs → x ≡ slice_index_or xs i x → map f (map g (take (i + 1) xs)) ≡ map f (map g (take i xs)) ++ f (g x) ∷ []
mapped-next g f xs i x l e = ap (map f) (map-next g xs i x l e) ∙ map-append f (map g (take i xs)) (g x ∷ [])
