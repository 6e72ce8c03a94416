-- What holds of each item of a list.
use Rattle.std.proofs.Common.{ℕ, zero, suc, ◌≡◌, ◌+◌, Bool, true, false, List, [], ◌∷◌, ◌++◌, map, slice_get, Some, refl, subst, arith}
use Rattle.std.specs.Bool.{if◌then◌else◌}
use Rattle.std.specs.List.{flat_map}
use Rattle.leo_clause.specs.Trees.{Literal}
use Rattle.leo_para.specs.Members.{each_literal}

abbrev pub Each : {X : Type 0} → (X → Type 0) → List X → Type 0
Each P [] = Unit {0}
Each P (x ∷ xs) = P x × Each P xs

pub each-at : {X : Type 0} (P : X → Type 0) (xs : List X) (n : ℕ) (x : X) → Each P xs → slice_get xs n ≡ Some x → P x
each-at P [] n x h e = absurd (cc)
each-at P (y ∷ xs) zero x h e = (let f : y ≡ x = cc in subst P f h.0)
each-at P (y ∷ xs) (suc n) x h e = each-at P xs n x h.1 e

pub each-append : {X : Type 0} (P : X → Type 0) (xs ys : List X) → Each P xs → Each P ys → Each P (xs ++ ys)
each-append P [] ys h g = g
each-append P (x ∷ xs) ys h g = (h.0, each-append P xs ys h.1 g)

pub each-weaker : {X : Type 0} (P Q : X → Type 0) (xs : List X) → ((x : X) → P x → Q x) → Each P xs → Each Q xs
each-weaker P Q [] f h = tt
each-weaker P Q (x ∷ xs) f h = (f x h.0, each-weaker P Q xs f h.1)

pub each-map : {X Y : Type 0} (P : Y → Type 0) (f : X → Y) (xs : List X) → Each (λ x. P (f x)) xs → Each P (map f xs)
each-map P f [] h = tt
each-map P f (x ∷ xs) h = (h.0, each-map P f xs h.1)

pub each-flat_map : {X Y : Type 0} (P : Y → Type 0) (f : X → List Y) (xs : List X) → Each (λ x. Each P (f x)) xs → Each P (flat_map f xs)
each-flat_map P f [] h = tt
each-flat_map P f (x ∷ xs) h = each-append P (f x) (flat_map f xs) h.0 (each-flat_map P f xs h.1)

pub each-all : {X : Type 0} (P : X → Type 0) (xs : List X) → ((x : X) → P x) → Each P xs
each-all P [] f = tt
each-all P (x ∷ xs) f = (f x, each-all P xs f)

-- if the test holds
pub each-if : {X : Type 0} (P : X → Type 0) (b : Bool) (xs : List X) → (b ≡ true → Each P xs) → Each P (if b then xs else [])
each-if P true xs f = f refl
each-if P false xs f = tt

pub each-unless : {X : Type 0} (P : X → Type 0) (b : Bool) (xs : List X) → (b ≡ false → Each P xs) → Each P (if b then [] else xs)
each-unless P true xs f = tt
each-unless P false xs f = f refl

-- what is given for each literal
each-from : {X : Type 0} (P : X → Type 0) (give : ℕ → Literal → List X) (n : ℕ) (ls : List Literal) → ((i : ℕ) (l : Literal) → slice_get ls i ≡ Some l → Each P (give (n + i) l)) → Each P (each_literal give n ls)
each-from P give n [] f = tt
each-from P give n (l ∷ ls) f =
    each-append P (give n l) (each_literal give (suc n) ls) (let e : n + zero ≡ n = omega arith in subst (λ m. Each P (give m l)) e (f zero l refl))
    (each-from P give (suc n) ls (λ i k h. (let e : n + suc i ≡ suc n + i = omega arith in subst (λ m. Each P (give m k)) e (f (suc i) k h))))

pub each-literals : {X : Type 0} (P : X → Type 0) (give : ℕ → Literal → List X) (ls : List Literal) → ((i : ℕ) (l : Literal) → slice_get ls i ≡ Some l → Each P (give i l)) → Each P (each_literal give 0 ls)
each-literals P give ls f = each-from P give 0 ls (λ i l h. (let e : i ≡ 0 + i = omega arith in subst (λ m. Each P (give m l)) e (f i l h)))
