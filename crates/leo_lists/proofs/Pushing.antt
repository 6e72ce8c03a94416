-- The lists of a table, and a slot put at the end of one.
use Rattle.std.proofs.Common.{◌≡◌, ◌≢◌, ◌⊎◌, inl, inr, ℕ, suc, ◌<◌, ◌≤◌, Bool, true, false, ◌||◌, List, [], ◌∷◌, ◌++◌, length, refl, sym, ◌∙◌, subst, eqb, eq-eqb, ne_eqb, arith}
use Rattle.std.specs.Prelude.{nat_eq}
use Rattle.std.specs.List.{IsDistinct, AllByRecursion}
use Rattle.std.proofs.lemmas.Bool.{or_cases, eqb-true}
use Rattle.std.proofs.lemmas.List.{ext_get_or, get_or-set_same, get_or-set_other, length-set, length-map}
use Rattle.std.proofs.Math.ListN.{get_or-map}
use Rattle.std.proofs.lemmas.List.Folds.{list_any-append}
use Rattle.std.proofs.lemmas.Map.Steps.{length-le_from_distinct_below}
use Rattle.leo_lists.specs.declared.rings.Place.{Place}
use Rattle.leo_lists.specs.declared.rings.Place.TheVariants.{Head, Slot}
use Rattle.leo_lists.specs.declared.rings.Link.{Link}
use Rattle.leo_lists.specs.Rings.{Table, no_link, IsPlace, joined, IsChain, walk, has, AreDistinct, list_at, lists_of, StandOnce, HasLists, StandsNowhere, pushed}
use Rattle.leo_lists.proofs.Links.{joined-made, place-joined, heads-joined}
use Rattle.leo_lists.proofs.Chains

pub or-none : (a b : Bool) → (a || b) ≡ false → (a ≡ false) × (b ≡ false)
or-none true b e = cc
or-none false b e = (refl, e)

differs_from : (x : ℕ) (xs : List ℕ) → has xs x ≡ false → AllByRecursion (λ y. eqb x y ≡ false) xs
differs_from x [] e = tt
differs_from x (y ∷ xs) e = let p = or-none (eqb x y) (has xs x) e in (p.0, differs_from x xs p.1)

-- the same in the words of std
distinct : (xs : List ℕ) → AreDistinct xs → IsDistinct eqb xs
unfolding IsDistinct
distinct [] d = tt
distinct (x ∷ xs) d = (differs_from x xs d.0, distinct xs d.1)

-- the list of a chain is no longer than the table
chain-short : (t : Table) (l : ℕ) (xs : List ℕ) → IsChain t (Head l) xs (Head l) → AreDistinct xs → length xs < suc (length t.slots)
chain-short t l xs h d =
    let b : length xs ≤ length t.slots = length-le_from_distinct_below xs (length t.slots) (distinct xs d) (λ q e. Chains.chain-slots t (Head l) (Head l) xs h q e) in
    omega (arith, b)

-- the lists of the table are those that it has
pub lists_are : (t : Table) (lists : List (List ℕ)) → HasLists t lists → lists_of t ≡ lists
lists_are t lists h =
    let f : Link → List ℕ = λ k. walk (suc (length t.slots)) t.slots k.after in
    ext_get_or [] (lists_of t) lists (length-map t.heads f ∙ sym h.count) (λ i b.
    let c : i < length t.heads = rw (length-map t.heads f) at b in
    let d : i < length lists = rw h.count c in
    get_or-map f t.heads i no_link ∙
    Chains.walked t (Head i) (list_at lists i) i (h.chained i c) (suc (length t.slots)) (chain-short t i (list_at lists i) (h.chained i c) (h.once.in_list i d)))

pub turned : (x y : ℕ) → nat_eq x y ≡ false → nat_eq y x ≡ false
turned x y e = ne_eqb y x (λ k. let f : nat_eq x y ≡ true = subst (λ (z : ℕ). nat_eq x z ≡ true) (sym k) (eq-eqb x x refl) in (cc))

-- distinct slots that a place is not one of
pub apart-from : (p : Place) (xs : List ℕ) → AreDistinct xs → ((x : ℕ) → has xs x ≡ true → p ≢ Slot x) → Chains.IsApart p xs
apart-from p [] d f = tt
apart-from p (x ∷ xs) d f = (
  f x (Chains.has-first x xs),
  apart-from p xs d.1 (λ y e. f y (Chains.has-later x y xs e)),
  d.0,
  apart-from (Slot x) xs d.1 (λ y e k. let same : y ≡ x = cc in Chains.differs xs y x e d.0 same),
)

-- a place of the ring of list l: its head, or one of its slots
abbrev pub IsOf : List (List ℕ) → ℕ → Place → Type 0
IsOf lists l p = (p ≡ Head l) ⊎ ((x : ℕ) × (has (list_at lists l) x ≡ true) × (p ≡ Slot x))

-- the ring of another list has not that place
pub other-ring : (lists : List (List ℕ)) → StandOnce lists → (l m : ℕ) → l < length lists → m < length lists → m ≢ l → (p : Place) → IsOf lists l p →
    (Head m ≢ p) × ((x : ℕ) → has (list_at lists m) x ≡ true → Slot x ≢ p)
other-ring lists once l m b c n p (inl e) = ((λ k. n (cc)), (λ x a k. cc))
other-ring lists once l m b c n p (inr r) = (
  (λ k. cc),
  (λ x a k. let same : x ≡ r.0 = cc in
      let none : has (list_at lists m) r.0 ≡ false = once.in_one l m r.0 b c (λ e. n (sym e)) r.1 in
      Chains.differs (list_at lists m) x r.0 a none same),
)

-- whether a slot stands in two lists joined
pub has-append : (xs ys : List ℕ) (x : ℕ) → has (xs ++ ys) x ≡ (has xs x || has ys x)
has-append xs ys x = list_any-append (nat_eq x) xs ys

pub distinct-snoc : (xs : List ℕ) (s : ℕ) → AreDistinct xs → has xs s ≡ false → AreDistinct (xs ++ s ∷ [])
distinct-snoc [] s d n = (refl, tt)
distinct-snoc (x ∷ xs) s d n =
    let parts : (nat_eq s x ≡ false) × (has xs s ≡ false) = or-none (nat_eq s x) (has xs s) n in
    let back : nat_eq x s ≡ false = turned s x parts.0 in
    ((has-append xs (s ∷ []) x ∙ (rw (d.0, back) refl)), distinct-snoc xs s d.1 parts.1)

-- the table once the slot s is the last of list l
abbrev pub push_table : Table → List (List ℕ) → ℕ → ℕ → Table
push_table t lists l s = joined (joined t (Chains.last_place (Head l) (list_at lists l)) (Slot s)) (Slot s) (Head l)

module _ (t : Table) (lists : List (List ℕ)) (h : HasLists t lists) (l s : ℕ) (b : l < length t.heads) (c : s < length t.slots) (free : StandsNowhere lists s) where
  in_lists : l < length lists
  in_lists = rw h.count b

  apart : Chains.IsApart (Head l) (list_at lists l)
  apart = apart-from (Head l) (list_at lists l) (h.once.in_list l in_lists) (λ x e k. cc)

  tail_of : IsOf lists l (Chains.last_place (Head l) (list_at lists l))
  tail_of = Chains.last-cases (Head l) (list_at lists l)

  pub tail_there : IsPlace t (Chains.last_place (Head l) (list_at lists l))
  tail_there = Chains.last-there t (Head l) (Head l) (list_at lists l) (h.chained l b)

  missing : (m : ℕ) → m < length lists → (x : ℕ) → has (list_at lists m) x ≡ true → Slot x ≢ Slot s
  missing m d x e k = let same : x ≡ s = cc in Chains.differs (list_at lists m) x s e (free m d) same

  slot_there : IsPlace (joined t (Chains.last_place (Head l) (list_at lists l)) (Slot s)) (Slot s)
  slot_there = place-joined t _ (Slot s) tail_there c (Slot s) c

  head_there : IsPlace (joined t (Chains.last_place (Head l) (list_at lists l)) (Slot s)) (Head l)
  head_there = place-joined t _ (Slot s) tail_there c (Head l) b

  longer : IsChain (push_table t lists l s) (Head l) (list_at lists l ++ s ∷ []) (Head l)
  longer =
      let moved : IsChain (joined t (Chains.last_place (Head l) (list_at lists l)) (Slot s)) (Head l) (list_at lists l) (Slot s) =
      Chains.chain-moved t (Head l) (Head l) (Slot s) (list_at lists l) apart c (missing l in_lists) (h.chained l b) in
      let kept = Chains.chain-kept _ (Slot s) (Head l) slot_there head_there (Head l) (Slot s) (list_at lists l) (λ k. cc) (λ k. cc) (λ x e. (missing l in_lists x e, λ k. cc)) moved in
      Chains.chain-append _ (Head l) (Head l) (list_at lists l) [] s kept (joined-made _ (Slot s) (Head l) slot_there head_there)

  others : (m : ℕ) → m < length t.heads → m ≢ l → IsChain (push_table t lists l s) (Head m) (list_at lists m) (Head m)
  others m d n =
      let e : m < length lists = rw h.count d in
      let away = other-ring lists h.once l m in_lists e n _ tail_of in
      let from_head = other-ring lists h.once l m in_lists e n (Head l) (inl refl) in
      Chains.chain-kept _ (Slot s) (Head l) slot_there head_there (Head m) (Head m) (list_at lists m) (λ k. cc) from_head.0 (λ x a. (missing m e x a, from_head.1 x a))
      (Chains.chain-kept t _ (Slot s) tail_there c (Head m) (Head m) (list_at lists m) away.0 (λ k. cc) (λ x a. (away.1 x a, missing m e x a)) (h.chained m d))

  at : (m : ℕ) → (m ≡ l) ⊎ (m ≢ l)
  at m = grind arith

  pushed-same : list_at (pushed lists l s) l ≡ list_at lists l ++ s ∷ []
  pushed-same = get_or-set_same lists l _ [] in_lists

  pushed-other : (m : ℕ) → m ≢ l → list_at (pushed lists l s) m ≡ list_at lists m
  pushed-other m n = get_or-set_other lists l m _ [] n

  -- what stands in the longer list stood there, or is the slot
  came-same : (x : ℕ) → has (list_at lists l ++ s ∷ []) x ≡ true → (has (list_at lists l) x ≡ true) ⊎ (x ≡ s)
  came-same x e = elim (or_cases (has (list_at lists l) x) (has (s ∷ []) x) (sym (has-append (list_at lists l) (s ∷ []) x) ∙ e)) [
    | inl a ↦ inl a
    | inr a ↦ inr (elim (or_cases (nat_eq x s) false a) [ inl f ↦ eqb-true x s f | inr f ↦ (let g : ⊥ = cc in absurd g) ])
  ]

  came : (m x : ℕ) → has (list_at (pushed lists l s) m) x ≡ true → (has (list_at lists m) x ≡ true) ⊎ ((m ≡ l) × (x ≡ s))
  came m x e = elim (at m) [
    | inl same ↦ (let f : has (list_at (pushed lists l s) l) x ≡ true = subst (λ (k : ℕ). has (list_at (pushed lists l s) k) x ≡ true) same e in
        elim (came-same x (rw pushed-same at f)) [
          | inl a ↦ inl (subst (λ (k : ℕ). has (list_at lists k) x ≡ true) (sym same) a)
          | inr a ↦ inr (same, a)
        ])
    | inr n ↦ inl (rw (pushed-other m n) at e)
  ]

  no-other : (m k x : ℕ) → m < length lists → k < length lists → m ≢ k → (has (list_at lists m) x ≡ true) ⊎ ((m ≡ l) × (x ≡ s)) → has (list_at (pushed lists l s) k) x ≡ false
  no-other m k x d e n (inl a) = elim (at k) [
    | inl same ↦ (subst (λ (j : ℕ). has (list_at (pushed lists l s) j) x ≡ false) (sym same) (rw (
      pushed-same,
      has-append (list_at lists l) (s ∷ []) x,
      h.once.in_one m l x d in_lists (λ q. n (q ∙ sym same)) a,
      ne_eqb x s (λ (q : x ≡ s). Chains.differs (list_at lists m) x s a (free m d) q),
    ) refl))
    | inr o ↦ (rw (pushed-other k o) (h.once.in_one m k x d e n a))
  ]
  no-other m k x d e n (inr r) =
      rw (pushed-other k (λ q. n (r.0 ∙ sym q))) (subst (λ (y : ℕ). has (list_at lists k) y ≡ false) (sym r.1) (free k e))

  once : StandOnce (pushed lists l s)
  once = record {
    in_list = λ m d. elim (at m) [
      | inl same ↦ (subst (λ (k : ℕ). AreDistinct (list_at (pushed lists l s) k)) (sym same) (rw pushed-same (distinct-snoc (list_at lists l) s (h.once.in_list l in_lists) (free l in_lists))))
      | inr n ↦ (rw (pushed-other m n) (h.once.in_list m (rw (length-set lists l _) at d)))
    ];
    in_one = λ m k x d e n f. no-other m k x (rw (length-set lists l _) at d) (rw (length-set lists l _) at e) n (came m x f);
  }

  heads : length (push_table t lists l s).heads ≡ length t.heads
  heads = heads-joined (joined t (Chains.last_place (Head l) (list_at lists l)) (Slot s)) (Slot s) (Head l) ∙ heads-joined t (Chains.last_place (Head l) (list_at lists l)) (Slot s)

  pub push : HasLists (push_table t lists l s) (pushed lists l s)
  push = record {
    count = length-set lists l _ ∙ h.count ∙ sym heads;
    chained = λ m d. let e : m < length t.heads = rw heads at d in elim (at m) [
      | inl same ↦ (subst (λ (k : ℕ). IsChain (push_table t lists l s) (Head k) (list_at (pushed lists l s) k) (Head k)) (sym same) (rw pushed-same longer))
      | inr n ↦ (rw (pushed-other m n) (others m e n))
    ];
    once = once;
  }
