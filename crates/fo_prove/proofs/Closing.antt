-- Marks that are closed under parents.
use Rattle.std.proofs.Common.{ℕ, zero, suc, ◌≡◌, ◌+◌, ◌<◌, ◌≤◌, ◌⊎◌, inl, inr, Bool, true, false, List, [], ◌∷◌, length, map, replicate, slice_set, take, drop, ◌++◌, Some, eqb, refl, sym, ap, subst, ◌∙◌, arith}
use Rattle.std.specs.List.{slice_get}
use Rattle.std.proofs.lemmas.Bool.Decides.{nat_tests}
use Rattle.std.proofs.lemmas.Option.{slice_get_within}
use Rattle.std.proofs.Math.Seq.{take-append_seam}
use Rattle.fo_super.specs.Turns.{Origin}
use Rattle.fo_prove.specs.Refutations.{IsParent, RestsOn, itself, on_parent}
use Rattle.fo_prove.specs.Marks.{AreEarlier, IsMarkedFor, IsClosedFrom, AreNeeded}

pub at_map : {X Y : Type 0} (f : X → Y) (xs : List X) (i : ℕ) (x : X) → slice_get xs i ≡ Some x → slice_get (map f xs) i ≡ Some (f x)
at_map f [] i x e = absurd cc
at_map f (y ∷ ys) zero x e = (let h : y ≡ x = cc in ap (λ z. Some (f z)) h)
at_map f (y ∷ ys) (suc i) x e = at_map f ys i x e

pub or_more : (n k : ℕ) → n ≤ k → (k ≡ n) ⊎ (n < k)
or_more n k le = go (eqb k n) refl
  where
    go : (t : Bool) → eqb k n ≡ t → (k ≡ n) ⊎ (n < k)
    go true e = inl (grind (arith, nat_tests))
    go false e = inr (grind (arith, nat_tests))

pub closed_marked : (n : ℕ) (os : List Origin) (e : ℕ) (old new : List Bool) (o : Origin) → AreEarlier os → slice_get os n ≡ Some o → slice_get old n ≡ Some true →
    IsMarkedFor (IsParent o) old new → IsClosedFrom (n + 1) os e old → IsClosedFrom n os e new
closed_marked n os e old new o earlier at marked m c = record {
  same_length = m.same_length ∙ c.same_length;
  last = m.stays e c.last;
  sound = λ k h. (elim (m.only k h) [
    | inl w ↦ c.sound k w
    | inr w ↦ on_parent (c.sound n marked) at w
  ]);
  closed = λ k j p le mk found par. (elim (or_more n k le) [
    | inl same ↦ m.each j (subst (λ q. IsParent q j) (one k p same found) par)
    | inr more ↦ (elim (m.only k mk) [
      | inl w ↦ m.stays j (c.closed k j p (omega (arith, more)) w found par)
      | inr w ↦ (let less : k < n = earlier n k o at w in absurd (omega (arith, less, more)))
    ])
  ]);
}
  where
    one : (k : ℕ) (p : Origin) → k ≡ n → slice_get os k ≡ Some p → p ≡ o
    one k p same found = (let h : slice_get os n ≡ Some p = subst (λ i. slice_get os i ≡ Some p) same found in cc)

pub closed_passed : (n : ℕ) (os : List Origin) (e : ℕ) (marks : List Bool) → slice_get marks n ≡ Some false → IsClosedFrom (n + 1) os e marks → IsClosedFrom n os e marks
closed_passed n os e marks unmarked c = record {
  same_length = c.same_length;
  last = c.last;
  sound = c.sound;
  closed = λ k j p le mk found par. (elim (or_more n k le) [
    | inl same ↦ (let h : slice_get marks n ≡ Some true = subst (λ i. slice_get marks i ≡ Some true) same mk in absurd cc)
    | inr more ↦ c.closed k j p (omega (arith, more)) mk found par
  ]);
}

pub closed_needed : (os : List Origin) (e : ℕ) (marks : List Bool) → IsClosedFrom 0 os e marks → AreNeeded os e marks
closed_needed os e marks c = record { same_length = c.same_length; sound = c.sound; whole = reached }
  where
    reached : (k : ℕ) → RestsOn os e k → slice_get marks k ≡ Some true
    reached k itself = c.last
    reached k (on_parent {n} {m} {o} r at par) = c.closed n k o (omega arith) (reached n r) at par

set_only : (n e k : ℕ) → slice_get (slice_set (replicate n false) e true) k ≡ Some true → k ≡ e
set_only zero e k h = absurd cc
set_only (suc n) zero zero h = refl
set_only (suc n) zero (suc k) h = absurd (none n k h)
  where
    none : (n k : ℕ) → slice_get (replicate n false) k ≡ Some true → ⊥
    none zero k h = cc
    none (suc n) zero h = cc
    none (suc n) (suc k) h = none n k h
set_only (suc n) (suc e) zero h = absurd cc
set_only (suc n) (suc e) (suc k) h = ap suc (set_only n e k h)

set_there : (n e : ℕ) → e < n → slice_get (slice_set (replicate n false) e true) e ≡ Some true
set_there zero e less = absurd (omega (arith, less))
set_there (suc n) zero less = refl
set_there (suc n) (suc e) less = set_there n e (omega (arith, less))

set_length : (n e : ℕ) → length (slice_set (replicate n false) e true) ≡ n
set_length zero e = refl
set_length (suc n) zero = ap suc (len n)
  where
    len : (n : ℕ) → length (replicate n false) ≡ n
    len zero = refl
    len (suc n) = ap suc (len n)
set_length (suc n) (suc e) = ap suc (set_length n e)

pub first_closed : (os : List Origin) (n e : ℕ) (marks : List Bool) → n ≡ length os → e < n → marks ≡ slice_set (replicate n false) e true → IsClosedFrom (length os) os e marks
first_closed os n e marks count less is = rw is (record {
  same_length = set_length n e ∙ count;
  last = set_there n e less;
  sound = λ k h. subst (λ j. RestsOn os e j) (sym (set_only n e k h)) itself;
  closed = λ k m o le h found par. (let within = slice_get_within os k o found in absurd (omega (arith, within, le)));
})

-- a slice of a vector that was written whole
pub written_whole : {X : Type 0} (new old : List X) (n : ℕ) → n ≡ length new → take n (new ++ drop (length new) old) ≡ new
written_whole new old n e = rw e (take-append_seam new (drop (length new) old))

pub needed_of : (os : List Origin) (n e : ℕ) (old new : List Bool) → n ≡ length os → e < n → old ≡ slice_set (replicate n false) e true →
    ((e : ℕ) → IsClosedFrom n os e old → IsClosedFrom 0 os e new) → AreNeeded os e new
needed_of os n e old new count less is visited =
    let first : IsClosedFrom n os e old = subst (λ k. IsClosedFrom k os e old) (sym count) (first_closed os n e old count less is) in
    closed_needed os e new (visited e first)
