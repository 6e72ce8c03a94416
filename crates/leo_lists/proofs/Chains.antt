-- Chains of places.
use Rattle.std.proofs.Common.{◌≡◌, ◌≢◌, ◌⊎◌, inl, inr, ℕ, zero, suc, ◌<◌, true, false, List, [], ◌∷◌, ◌++◌, length, refl, ◌∙◌, subst, ap, arith}
use Rattle.std.specs.Prelude.{nat_eq}
use Rattle.std.proofs.lemmas.Bool.{or_cases, eqb-true}
use Rattle.leo_lists.specs.declared.rings.Place.{Place}
use Rattle.leo_lists.specs.declared.rings.Place.TheVariants.{Head, Slot}
use Rattle.leo_lists.specs.Rings.{Table, IsPlace, link_at, joined, IsChain, walk, has}
use Rattle.leo_lists.proofs.Links.{joined-made, joined-kept}

-- a slot of the list is not one that the list lacks
pub differs : (xs : List ℕ) (x y : ℕ) → has xs x ≡ true → has xs y ≡ false → x ≢ y
differs xs x y h n e = let f : has xs y ≡ true = subst (λ (z : ℕ). has xs z ≡ true) e h in (cc)

pub has-first : (x : ℕ) (xs : List ℕ) → has (x ∷ xs) x ≡ true
has-first x xs = grind arith

pub has-later : (x y : ℕ) (xs : List ℕ) → has xs y ≡ true → has (x ∷ xs) y ≡ true
has-later x y xs h = rw h (grind arith)

-- what a chain of slots leads through from the front
pub walked : (t : Table) (p : Place) (xs : List ℕ) (l : ℕ) → IsChain t p xs (Head l) → (n : ℕ) → length xs < n → walk n t.slots (link_at t p).after ≡ xs
walked t p [] l h (suc n) b = rw h.2 refl
walked t p (x ∷ xs) l h (suc n) b = rw h.0.2 (ap (λ (ys : List ℕ). x ∷ ys) (walked t (Slot x) xs l h.1 n (omega (arith, b))))
walked t p xs l h zero b = let f : ⊥ = omega (arith, b) in absurd f

-- the place before the end of a chain
abbrev pub last_place : Place → List ℕ → Place
last_place p [] = p
last_place p (x ∷ xs) = last_place (Slot x) xs

pub chain-end : (t : Table) (p q : Place) (xs : List ℕ) → IsChain t p xs q → (link_at t q).before ≡ last_place p xs
chain-end t p q [] h = h.3
chain-end t p q (x ∷ xs) h = chain-end t (Slot x) q xs h.1

pub chain-append : (t : Table) (p q : Place) (xs ys : List ℕ) (x : ℕ) → IsChain t p xs (Slot x) → IsChain t (Slot x) ys q → IsChain t p (xs ++ x ∷ ys) q
chain-append t p q [] ys x h k = (h, k)
chain-append t p q (y ∷ xs) ys x h k = (h.0, chain-append t (Slot y) q xs ys x h.1 k)

pub chain-split : (t : Table) (p q : Place) (xs ys : List ℕ) (x : ℕ) → IsChain t p (xs ++ x ∷ ys) q → IsChain t p xs (Slot x) × IsChain t (Slot x) ys q
chain-split t p q [] ys x h = (h.0, h.1)
chain-split t p q (y ∷ xs) ys x h = let r = chain-split t (Slot y) q xs ys x h.1 in ((h.0, r.0), r.1)

pub chain-places : (t : Table) (p q : Place) (xs : List ℕ) → IsChain t p xs q → IsPlace t p × IsPlace t q
chain-places t p q [] h = (h.0, h.1)
chain-places t p q (x ∷ xs) h = (h.0.0, (chain-places t (Slot x) q xs h.1).1)

-- each slot of a chain is there
pub chain-slots : (t : Table) (p q : Place) (xs : List ℕ) → IsChain t p xs q → (x : ℕ) → has xs x ≡ true → x < length t.slots
chain-slots t p q [] h x e = cc
chain-slots t p q (y ∷ xs) h x e = elim (or_cases (nat_eq x y) (has xs x) e) [
  | inl a ↦ rw (eqb-true x y a) h.0.1
  | inr b ↦ chain-slots t (Slot y) q xs h.1 x b
]

module _ (t : Table) (p q : Place) (hp : IsPlace t p) (hq : IsPlace t q) where
  -- a chain that leads neither through p nor to q is kept
  pub chain-kept : (a b : Place) (xs : List ℕ) → a ≢ p → b ≢ q → ((x : ℕ) → has xs x ≡ true → (Slot x ≢ p) × (Slot x ≢ q)) →
      IsChain t a xs b → IsChain (joined t p q) a xs b
  chain-kept a b [] n m f h = joined-kept t p q hp hq a b n m h
  chain-kept a b (x ∷ xs) n m f h =
      let first : (Slot x ≢ p) × (Slot x ≢ q) = f x (has-first x xs) in (
        joined-kept t p q hp hq a (Slot x) n first.1 h.0,
        chain-kept (Slot x) b xs first.0 m (λ y e. f y (has-later x y xs e)) h.1,
      )

-- the last place is the first, or one of the slots
pub last-cases : (p : Place) (xs : List ℕ) → (last_place p xs ≡ p) ⊎ ((x : ℕ) × (has xs x ≡ true) × (last_place p xs ≡ Slot x))
last-cases p [] = inl refl
last-cases p (x ∷ xs) = elim (last-cases (Slot x) xs) [
  | inl e ↦ inr (x, has-first x xs, e)
  | inr r ↦ inr (r.0, has-later x r.0 xs r.1, r.2)
]

-- no slot of the list is the place, and none comes twice
abbrev pub IsApart : Place → List ℕ → Type 0
IsApart p [] = Unit {0}
IsApart p (x ∷ xs) = (p ≢ Slot x) × IsApart p xs × (has xs x ≡ false) × IsApart (Slot x) xs

apart-misses : (p : Place) (xs : List ℕ) → IsApart p xs → (x : ℕ) → has xs x ≡ true → p ≢ Slot x
apart-misses p [] h x e = cc
apart-misses p (y ∷ xs) h x e = elim (or_cases (nat_eq x y) (has xs x) e) [
  | inl a ↦ rw (eqb-true x y a) h.0
  | inr b ↦ apart-misses p xs h.1 x b
]

pub last-there : (t : Table) (p b : Place) (xs : List ℕ) → IsChain t p xs b → IsPlace t (last_place p xs)
last-there t p b [] h = h.0
last-there t p b (x ∷ xs) h = last-there t (Slot x) b xs h.1

-- a chain without its last step, now to another place
pub chain-moved : (t : Table) (p b c : Place) (xs : List ℕ) → IsApart p xs → IsPlace t c → ((x : ℕ) → has xs x ≡ true → Slot x ≢ c) →
    IsChain t p xs b → IsChain (joined t (last_place p xs) c) p xs c
chain-moved t p b c [] d hc f h = joined-made t p c h.0 hc
chain-moved t p b c (x ∷ xs) d hc f h =
    let tail = last_place (Slot x) xs in
    let last : IsPlace t tail = last-there t (Slot x) b xs h.1 in
    let before : p ≢ tail = elim (last-cases (Slot x) xs) [
      | inl e ↦ (λ k. d.0 (k ∙ e))
      | inr r ↦ (λ k. apart-misses p xs d.1 r.0 r.1 (k ∙ r.2))
    ] in (
      joined-kept t tail c last hc p (Slot x) before (f x (has-first x xs)) h.0,
      chain-moved t (Slot x) b c xs d.3 hc (λ y e. f y (has-later x y xs e)) h.1,
    )
