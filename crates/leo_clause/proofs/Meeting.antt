-- Variables that were met, and terms whose variables were met.
use Rattle.std.proofs.Common.{ℕ, zero, suc, nat_eq, ◌≡◌, ◌∙◌, ◌+◌, ◌<◌, Bool, true, false, ◌||◌, List, [], ◌∷◌, ◌++◌, length, map, take, slice_get, slice_index_or, Some, refl, sym, ap, arith, ◌⊎◌, inl, inr}
use Rattle.std.proofs.lemmas.List.{take_more, map-append}
use Rattle.std.specs.Bool.{if◌then◌else◌}
use Rattle.std.specs.List.{list_any}
use Rattle.leo_terms.specs.Contents.{Contents, tree_at}
use Rattle.leo_clause.specs.declared.clause.Lit.{Lit}
use Rattle.leo_clause.specs.Trees.{Literal, literal_at}
use Rattle.leo_clause.specs.Typed.{AreLiteralsOf}
use Rattle.leo_clause.specs.Arranging.{firsts, occurring, occurring_in}
use Rattle.leo_clause.specs.Renaming.{AreSeen, AreBelow, AreMet}
use Rattle.leo_clause.proofs.Seen.{firsts-append, AreSeen-with}

-- a term that was visited has met variables
known-step : (c : Contents) (t v : ℕ) (order : List ℕ) (b d : Bool) → (b ≡ true → t ≡ v) → AreSeen order (occurring (tree_at c v)) → (b || d) ≡ true → (d ≡ true → AreSeen order (occurring (tree_at c t))) → AreSeen order (occurring (tree_at c t))
known-step c t v order true d same here h later = rw (same refl) here
known-step c t v order false d same here h later = later h

pub known : (c : Contents) (t : ℕ) (test : ℕ → Bool) → ((v : ℕ) → test v ≡ true → t ≡ v) → (visited order : List ℕ) → AreMet c visited order → list_any test visited ≡ true → AreSeen order (occurring (tree_at c t))
known c t test same [] order met h = absurd (cc)
known c t test same (v ∷ vs) order met h = known-step c t v order (test v) (list_any test vs) (same v) (met 0 v refl) h (known c t test same vs order (λ i u e. met (suc i) u e))

pub met-with : (c : Contents) (visited order ns : List ℕ) → AreMet c visited order → AreMet c visited (firsts nat_eq order ns)
met-with c visited order ns met i t e = AreSeen-with (occurring (tree_at c t)) ns order (met i t e)

-- a term more
pub end-only : {X : Type 0} (xs : List X) (x : X) (i : ℕ) (y : X) → slice_get (xs ++ x ∷ []) i ≡ Some y → (slice_get xs i ≡ Some y) ⊎ (x ≡ y)
end-only [] x zero y h = inr (cc)
end-only [] x (suc i) y h = absurd (cc)
end-only (z ∷ xs) x zero y h = inl h
end-only (z ∷ xs) x (suc i) y h = end-only xs x i y h

pub met-more : (c : Contents) (b : Bool) (visited order : List ℕ) (t : ℕ) → AreMet c visited order → AreSeen order (occurring (tree_at c t)) → AreMet c (if b then visited else visited ++ t ∷ []) order
met-more c true visited order t met seen i u e = met i u e
met-more c false visited order t met seen i u e =
    elim (end-only visited t i u e) [
      | inl h ↦ met i u h
      | inr h ↦ rw (← h) seen
    ]

-- two parts after one another
pub both-met : (xs ys order middle end : List ℕ) → middle ≡ firsts nat_eq order xs → end ≡ firsts nat_eq middle ys → end ≡ firsts nat_eq order (xs ++ ys)
both-met xs ys order middle end e f = f ∙ ap (λ (o : List ℕ). firsts nat_eq o ys) e ∙ sym (firsts-append nat_eq xs ys order)

pub one-met : (n : ℕ) (order : List ℕ) → (if list_any (nat_eq n) order then order else order ++ n ∷ []) ≡ firsts nat_eq order (n ∷ [])
one-met n order = refl

-- the numbers of a literal of a bank
pub literals-at : (c : Contents) (ls : List Lit) → AreLiteralsOf c ls → (i : ℕ) (l : Lit) → i < length ls → l ≡ slice_index_or ls i l → (l.left < length c.terms) × (l.right < length c.terms)
literals-at c [] h i l lt e = absurd (omega arith)
literals-at c (k ∷ ls) h zero l lt e = rw e (h.0, h.1)
literals-at c (k ∷ ls) h (suc i) l lt e = literals-at c ls h.2 i l (omega arith) e

end-nil : (xs : List ℕ) → xs ++ [] ≡ xs
end-nil [] = refl
end-nil (x ∷ xs) = ap (λ (ys : List ℕ). x ∷ ys) (end-nil xs)

append-three : (xs ys zs : List ℕ) → (xs ++ ys) ++ zs ≡ xs ++ (ys ++ zs)
append-three [] ys zs = refl
append-three (x ∷ xs) ys zs = ap (λ (ws : List ℕ). x ∷ ws) (append-three xs ys zs)

occurring-end : (ls : List Literal) (l : Literal) → occurring_in (ls ++ l ∷ []) ≡ occurring_in ls ++ (occurring l.left ++ occurring l.right)
occurring-end [] l = end-nil (occurring l.left ++ occurring l.right)
occurring-end (k ∷ ls) l = rw (occurring-end ls l) (sym (append-three (occurring k.left ++ occurring k.right) (occurring_in ls) (occurring l.left ++ occurring l.right)))

-- the order after one literal more
pub order-next : (c : Contents) (ls : List Lit) (i : ℕ) (l : Lit) (order middle end : List ℕ) → i < length ls → l ≡ slice_index_or ls i l → order ≡ firsts nat_eq [] (occurring_in (map (literal_at c) (take i ls))) → middle ≡ firsts nat_eq order (occurring (tree_at c l.left)) → end ≡ firsts nat_eq middle (occurring (tree_at c l.right)) → end ≡ firsts nat_eq [] (occurring_in (map (literal_at c) (take (i + 1) ls)))
order-next c ls i l order middle end lt e o p q =
    let t : take (i + 1) ls ≡ take i ls ++ l ∷ [] = take_more ls i l lt ∙ ap (λ (z : Lit). take i ls ++ z ∷ []) (sym e) in
    let u : map (literal_at c) (take (i + 1) ls) ≡ map (literal_at c) (take i ls) ++ literal_at c l ∷ [] = ap (map (literal_at c)) t ∙ map-append (literal_at c) (take i ls) (l ∷ []) in
    let v : occurring_in (map (literal_at c) (take (i + 1) ls)) ≡ occurring_in (map (literal_at c) (take i ls)) ++ (occurring (tree_at c l.left) ++ occurring (tree_at c l.right)) = ap occurring_in u ∙ occurring-end (map (literal_at c) (take i ls)) (literal_at c l) in
    rw v (both-met (occurring_in (map (literal_at c) (take i ls))) (occurring (tree_at c l.left) ++ occurring (tree_at c l.right)) [] order end o (both-met (occurring (tree_at c l.left)) (occurring (tree_at c l.right)) order middle end p q))

-- numbers below a bound
pub below-at : (n : ℕ) (ms : List ℕ) → AreBelow n ms → (i m : ℕ) → slice_get ms i ≡ Some m → m < n
below-at n [] h i m e = absurd (cc)
below-at n (k ∷ ms) h zero m e = let f : k ≡ m = cc in rw (← f) h.0
below-at n (k ∷ ms) h (suc i) m e = below-at n ms h.1 i m e

-- the types after one variable more
pub take-map_next : {X Y : Type 0} (f : X → Y) (xs : List X) (i : ℕ) (x : X) → slice_get xs i ≡ Some x → take (i + 1) (map f xs) ≡ take i (map f xs) ++ f x ∷ []
take-map_next f [] i x e = absurd (cc)
take-map_next f (y ∷ xs) zero x e = let g : y ≡ x = cc in rw g refl
take-map_next f (y ∷ xs) (suc i) x e = let on : suc i + 1 ≡ suc (i + 1) = omega arith in rw on (ap (λ ys. f y ∷ ys) (take-map_next f xs i x e))

pub types-next : (vars order types : List ℕ) (place n a : ℕ) → slice_get order place ≡ Some n → slice_get vars n ≡ Some a → map Some types ≡ take place (map (slice_get vars) order) → map Some (types ++ a ∷ []) ≡ take (place + 1) (map (slice_get vars) order)
types-next vars order types place n a e f h =
    map-append Some types (a ∷ []) ∙ rw (h, ← f) (sym (take-map_next (slice_get vars) order place n e))
