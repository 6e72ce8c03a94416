-- A clause added.
use Rattle.std.proofs.Common.{◌≡◌, ◌≢◌, ◌⊎◌, inl, inr, ℕ, ◌+◌, ◌*◌, ◌<◌, Bool, true, false, ◌||◌, List, [], ◌∷◌, ◌++◌, map, length, refl, sym, ◌∙◌, subst, ap, eq-eqb, ne_eqb, arith}
use Rattle.std.specs.Prelude.{nat_eq, slice_index_or, slice_set}
use Rattle.std.proofs.lemmas.List.{append-nil, length-set, get_or-set_same, get_or-set_other}
use Rattle.std.proofs.lemmas.List.Elements.{filter-append}
use Rattle.leo_lists.specs.Lists.{Lists}
use Rattle.leo_lists.specs.Rings.{has, list_at, pushed, StandsNowhere}
use Rattle.leo_passive.specs.Entries.{Entry, AreBelow}
use Rattle.leo_passive.specs.Table.{age_slot, weight_slot, list_of_weight, of_list, AreAbove, IsRising, AreKept, HasEntries}
use Rattle.leo_passive.proofs.Numbers
use Rattle.leo_passive.proofs.Removing.{list-range}

below-rest : (n : ℕ) (e : Entry) (es : List Entry) → AreBelow n (e ∷ es) → AreBelow n es
below-rest n e es h = h.1

below-first : (n : ℕ) (e : Entry) (es : List Entry) → AreBelow n (e ∷ es) → e.number < n
below-first n e es h = h.0

-- the slots of a number above all others are free
age-free : (n : ℕ) (es : List Entry) → AreBelow n es → has (map age_slot es) (2 * n) ≡ false
age-free n [] h = refl
age-free n (e ∷ es) h =
    let b = below-first n e es h in
    rw (Numbers.even-even n e.number, ne_eqb n e.number (λ k. omega (arith, k, b))) (age-free n es (below-rest n e es h))

weight-free : (n : ℕ) (es : List Entry) → AreBelow n es → has (map weight_slot es) (2 * n + 1) ≡ false
weight-free n [] h = refl
weight-free n (e ∷ es) h =
    let b = below-first n e es h in
    rw (Numbers.odd-odd n e.number, ne_eqb n e.number (λ k. omega (arith, k, b))) (weight-free n es (below-rest n e es h))

-- a slot of one kind is none of the other
age-other : (n : ℕ) (es : List Entry) → has (map weight_slot es) (2 * n) ≡ false
age-other n [] = refl
age-other n (e ∷ es) = rw (Numbers.even-odd n e.number) (age-other n es)

weight-other : (n : ℕ) (es : List Entry) → has (map age_slot es) (2 * n + 1) ≡ false
weight-other n [] = refl
weight-other n (e ∷ es) = rw (Numbers.odd-even n e.number) (weight-other n es)

-- what is free among all is free in each list
free-of : (n k : ℕ) (es : List Entry) → AreBelow n es → has (map weight_slot (of_list k es)) (2 * n + 1) ≡ false
free-of n k [] h = refl
free-of n k (e ∷ es) h = go (nat_eq (list_of_weight e.weight) k) refl (free-of n k es (below-rest n e es h)) where
  go : (b : Bool) → nat_eq (list_of_weight e.weight) k ≡ b → has (map weight_slot (of_list k es)) (2 * n + 1) ≡ false → has (map weight_slot (of_list k (e ∷ es))) (2 * n + 1) ≡ false
  go true x r = let b = below-first n e es h in rw (x, Numbers.odd-odd n e.number, ne_eqb n e.number (λ z. omega (arith, z, b))) r
  go false x r = rw x r

-- entries behind others
above-snoc : (m : ℕ) (es : List Entry) (e : Entry) → AreAbove m es → m < e.number → AreAbove m (es ++ e ∷ [])
above-snoc m [] e h b = (b, tt)
above-snoc m (d ∷ es) e h b = (h.0, above-snoc m es e h.1 b)

rising-snoc : (es : List Entry) (e : Entry) → IsRising es → AreBelow e.number es → IsRising (es ++ e ∷ [])
rising-snoc [] e h b = (tt, tt)
rising-snoc (d ∷ es) e h b = (above-snoc d.number es e h.0 (below-first e.number d es b), rising-snoc es e h.1 (below-rest e.number d es b))

kept-snoc : (slots : ℕ) (weights : List ℕ) (es : List Entry) (e : Entry) → AreKept slots weights es → 2 * e.number + 1 < slots → slice_index_or weights e.number 0 ≡ e.weight →
    AreKept slots weights (es ++ e ∷ [])
kept-snoc slots weights [] e h a b = (a, b, tt)
kept-snoc slots weights (d ∷ es) e h a b = (h.0, h.1, kept-snoc slots weights es e h.2 a b)

-- a weight written at a number above all others changes none of theirs
pub kept-written : (slots : ℕ) (weights : List ℕ) (es : List Entry) (n w : ℕ) → AreBelow n es → AreKept slots weights es → AreKept slots (slice_set weights n w) es
kept-written slots weights [] n w b h = tt
kept-written slots weights (e ∷ es) n w b h =
    let c = below-first n e es b in
    (h.0, get_or-set_other weights n e.number w 0 (λ k. omega (arith, k, c)) ∙ h.1, kept-written slots weights es n w (below-rest n e es b) h.2)

map-append : {A B : Type 0} (f : A → B) (xs ys : List A) → map f (xs ++ ys) ≡ map f xs ++ map f ys
map-append f [] ys = refl
map-append f (x ∷ xs) ys = ap (λ (zs : List _). f x ∷ zs) (map-append f xs ys)

-- the slots with those of one more entry
abbrev pub with_entry : Lists → Entry → Lists
with_entry s e = record { slots = s.slots; lists = pushed (pushed s.lists 0 (2 * e.number)) (list_of_weight e.weight) (2 * e.number + 1) }

or-none : (a b : Bool) → (a || b) ≡ false → (a ≡ false) × (b ≡ false)
or-none true b e = cc
or-none false b e = (refl, e)

has-snoc : (xs : List ℕ) (x y : ℕ) → has xs x ≡ false → nat_eq x y ≡ false → has (xs ++ y ∷ []) x ≡ false
has-snoc [] x y a b = rw b refl
has-snoc (z ∷ xs) x y a b = let p = or-none (nat_eq x z) (has xs x) a in rw p.0 (has-snoc xs x y p.1 b)

module _ (s : Lists) (weights : List ℕ) (es : List Entry) (e : Entry) (h : HasEntries s weights es) (newest : AreBelow e.number es) (room : 2 * e.number + 1 < s.slots) (n : e.number < length weights) where
  first : 0 < length s.lists
  first = rw h.many (omega arith)

  cases : (l : ℕ) → (l ≡ 0) ⊎ (0 < l)
  cases l = grind arith

  pub age-nowhere : StandsNowhere s.lists (2 * e.number)
  age-nowhere l b = elim (cases l) [
    | inl z ↦ (subst (λ (k : ℕ). has (list_at s.lists k) (2 * e.number) ≡ false) (sym z) (rw h.ages (age-free e.number es newest)))
    | inr p ↦ (rw (h.weighed l p (rw h.many at b)) (age-other e.number (of_list l es)))
  ]

  old-list : (k : ℕ) → 0 < k → k < 515 → list_at (pushed s.lists 0 (2 * e.number)) k ≡ map weight_slot (of_list k es)
  old-list k p q = get_or-set_other s.lists 0 k _ [] (λ z. omega (arith, z, p)) ∙ h.weighed k p q

  new-ages : list_at (pushed s.lists 0 (2 * e.number)) 0 ≡ map age_slot es ++ 2 * e.number ∷ []
  new-ages = get_or-set_same s.lists 0 _ [] first ∙ ap (λ (xs : List ℕ). xs ++ 2 * e.number ∷ []) h.ages

  pub weight-nowhere : StandsNowhere (pushed s.lists 0 (2 * e.number)) (2 * e.number + 1)
  weight-nowhere l b = let c : l < 515 = rw (length-set s.lists 0 _, h.many) at b in elim (cases l) [
    | inl z ↦ (subst (λ (k : ℕ). has (list_at (pushed s.lists 0 (2 * e.number)) k) (2 * e.number + 1) ≡ false) (sym z)
        (rw new-ages (has-snoc (map age_slot es) (2 * e.number + 1) (2 * e.number) (weight-other e.number es) (Numbers.odd-even e.number e.number))))
    | inr p ↦ (rw (old-list l p c) (free-of e.number l es newest))
  ]

  -- the list of the weight grows, and no other
  same-or : (k : ℕ) → (k ≡ list_of_weight e.weight) ⊎ (k ≢ list_of_weight e.weight)
  same-or k = grind arith

  of-snoc : (k : ℕ) → of_list k (es ++ e ∷ []) ≡ of_list k es ++ of_list k (e ∷ [])
  of-snoc k = filter-append (λ (d : Entry). nat_eq (list_of_weight d.weight) k) es (e ∷ [])

  in-reach : list_of_weight e.weight < length (pushed s.lists 0 (2 * e.number))
  in-reach = rw (length-set s.lists 0 (list_at s.lists 0 ++ 2 * e.number ∷ []), h.many) (list-range e.weight).1

  weighed-then : (k : ℕ) → 0 < k → k < 515 → list_at (with_entry s e).lists k ≡ map weight_slot (of_list k (es ++ e ∷ []))
  weighed-then k p q = elim (same-or k) [
    | inl z ↦ (subst (λ (j : ℕ). list_at (with_entry s e).lists j ≡ map weight_slot (of_list j (es ++ e ∷ []))) (sym z)
        (get_or-set_same (pushed s.lists 0 (2 * e.number)) (list_of_weight e.weight) _ [] in-reach
        ∙ (rw (
          old-list (list_of_weight e.weight) (list-range e.weight).0 (list-range e.weight).1,
          of-snoc (list_of_weight e.weight),
          map-append weight_slot (of_list (list_of_weight e.weight) es) (of_list (list_of_weight e.weight) (e ∷ [])),
          eq-eqb (list_of_weight e.weight) (list_of_weight e.weight) refl,
        ) refl)))
    | inr z ↦ (get_or-set_other (pushed s.lists 0 (2 * e.number)) (list_of_weight e.weight) k _ [] z ∙ old-list k p q
        ∙ (rw (of-snoc k, ne_eqb (list_of_weight e.weight) k (λ y. z (sym y))) (ap (map weight_slot) (sym (append-nil (of_list k es))))))
  ]

  pub add : slice_index_or weights e.number 0 ≡ e.weight → HasEntries (with_entry s e) weights (es ++ e ∷ [])
  add w = record {
    many = length-set (pushed s.lists 0 (2 * e.number)) (list_of_weight e.weight) _ ∙ length-set s.lists 0 _ ∙ h.many;
    room = h.room;
    few = h.few;
    ages = get_or-set_other (pushed s.lists 0 (2 * e.number)) (list_of_weight e.weight) 0 _ [] (λ z. let r = (list-range e.weight).0 in omega (arith, z, r)) ∙ new-ages ∙ sym (map-append age_slot es (e ∷ []));
    weighed = weighed-then;
    rising = rising-snoc es e h.rising newest;
    kept = kept-snoc s.slots weights es e h.kept room w;
  }
