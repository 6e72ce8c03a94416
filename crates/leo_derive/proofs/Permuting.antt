-- A map that is injective on some numbers is one of all numbers that can be undone.
use Rattle.std.proofs.Common.{ℕ, ◌≡◌, nat_eq, Bool, true, false, List, [], ◌∷◌, ◌||◌, refl, sym, ◌∙◌, ap, arith}
use Rattle.std.specs.Bool.{if◌then◌else◌}
use Rattle.std.specs.List.{list_any}
use Rattle.std.proofs.lemmas.Bool.Decides.{nat_tests}
use Rattle.leo_clause.proofs.Same.{same-number}
use Rattle.leo_derive.specs.Symbols.{IsOneOf}
use Rattle.leo_derive.specs.Renaming.{IsInjectiveOn}

-- each map of numbers undoes the other
pub record AreInverse (f g : ℕ → ℕ) : Type 0 where
  pub there : (n : ℕ) → g (f n) ≡ n
  pub back : (n : ℕ) → f (g n) ≡ n

-- two numbers change places
abbrev swapped : ℕ → ℕ → ℕ → ℕ
swapped a b n = if nat_eq n a then b else (if nat_eq n b then a else n)

equal : (m n : ℕ) → nat_eq m n ≡ true → m ≡ n
equal m n h = grind (arith, nat_tests)

unequal : (m n : ℕ) → (m ≡ n → ⊥) → nat_eq m n ≡ false
unequal m n h = by (nat_eq m n) refl
  where
    by : (t : Bool) → nat_eq m n ≡ t → t ≡ false
    by true e = absurd (h (equal m n e))
    by false e = refl

swapped-first : (a b : ℕ) → swapped a b a ≡ b
swapped-first a b = rw (same-number a) refl

swapped-second : (a b : ℕ) → swapped a b b ≡ a
swapped-second a b = by (nat_eq b a) refl
  where
    by : (t : Bool) → nat_eq b a ≡ t → (if t then b else (if nat_eq b b then a else b)) ≡ a
    by true e = equal b a e
    by false e = rw (same-number b) refl

swapped-other : (a b n : ℕ) → (n ≡ a → ⊥) → (n ≡ b → ⊥) → swapped a b n ≡ n
swapped-other a b n h k = rw (unequal n a h, unequal n b k) refl

swapped-twice : (a b n : ℕ) → swapped a b (swapped a b n) ≡ n
swapped-twice a b n = by (nat_eq n a) refl (nat_eq n b) refl
  where
    by : (t : Bool) → nat_eq n a ≡ t → (u : Bool) → nat_eq n b ≡ u → swapped a b (if t then b else (if u then a else n)) ≡ n
    by true e u f = swapped-second a b ∙ sym (equal n a e)
    by false e true f = swapped-first a b ∙ sym (equal n b f)
    by false e false f = rw (e, f) refl

-- a map that can be undone, and is that one on these symbols
pub record IsExtended (f : ℕ → ℕ) (symbols : List ℕ) : Type 0 where
  pub forth : ℕ → ℕ
  pub undo : ℕ → ℕ
  pub inverse : AreInverse forth undo
  pub agrees : (s : ℕ) → IsOneOf s symbols → f s ≡ forth s

later : (s m : ℕ) (symbols : List ℕ) → IsOneOf m symbols → IsOneOf m (s ∷ symbols)
later s m symbols h = by (nat_eq m s) (list_any (nat_eq m) symbols) h
  where
    by : (a b : Bool) → b ≡ true → (a || b) ≡ true
    by true b k = refl
    by false b k = k

-- one symbol more
module _ (f : ℕ → ℕ) (s : ℕ) (symbols : List ℕ) (injective : IsInjectiveOn (s ∷ symbols) f) (e : IsExtended f symbols) where
  abbrev changed : ℕ → ℕ
  changed n = swapped (e.forth s) (f s) n

  other : (t : ℕ) → nat_eq t s ≡ false → IsOneOf t symbols → f t ≡ changed (e.forth t)
  other t k h =
      let this : IsOneOf s (s ∷ symbols) = rw (same-number s) refl in
      let differ : t ≡ s → ⊥ = λ g. let u : nat_eq t s ≡ true = rw g (same-number s) in cc in
      let from_first : e.forth t ≡ e.forth s → ⊥ = λ g. differ (sym (e.inverse.there t) ∙ (ap e.undo g ∙ e.inverse.there s)) in
      let from_second : e.forth t ≡ f s → ⊥ = λ g. differ (injective t s (later s t symbols h) this (e.agrees t h ∙ g)) in
      e.agrees t h ∙ sym (swapped-other (e.forth s) (f s) (e.forth t) from_first from_second)

  agrees_on : (t : ℕ) (u : Bool) → nat_eq t s ≡ u → IsOneOf t (s ∷ symbols) → f t ≡ changed (e.forth t)
  agrees_on t true k h = let g = equal t s k in ap f g ∙ (sym (swapped-first (e.forth s) (f s)) ∙ ap (λ n. changed (e.forth n)) (sym g))
  agrees_on t false k h = other t k (rw k at h)

  extended_by : IsExtended f (s ∷ symbols)
  extended_by = record {
    forth = λ n. changed (e.forth n);
    undo = λ n. e.undo (changed n);
    inverse = record {
      there = λ n. ap e.undo (swapped-twice (e.forth s) (f s) (e.forth n)) ∙ e.inverse.there n;
      back = λ n. ap changed (e.inverse.back (changed n)) ∙ swapped-twice (e.forth s) (f s) n;
    };
    agrees = λ t h. agrees_on t (nat_eq t s) refl h;
  }

pub extended : (f : ℕ → ℕ) (symbols : List ℕ) → IsInjectiveOn symbols f → IsExtended f symbols
extended f [] injective = record {
  forth = λ n. n;
  undo = λ n. n;
  inverse = record { there = λ n. refl; back = λ n. refl };
  agrees = λ s h. absurd cc;
}
extended f (s ∷ symbols) injective = extended_by f s symbols injective (extended f symbols (λ m n p q. injective m n (later s m symbols p) (later s n symbols q)))
