-- Lists and slots added to a table.
use Rattle.std.proofs.Common.{◌≡◌, ◌≢◌, ◌⊎◌, inl, inr, ℕ, zero, suc, ◌+◌, ◌-◌, ◌<◌, ◌≤◌, true, false, List, [], ◌∷◌, ◌++◌, append_assoc, length, refl, sym, ◌∙◌, subst, ap, arith}
use Rattle.std.specs.Prelude.{replicate, slice_index_or}
use Rattle.std.proofs.lemmas.List.{get_or_append_left, get_or-append-add, get_or-replicate, length-append, length-replicate}
use Rattle.leo_lists.specs.declared.rings.Place.{Place}
use Rattle.leo_lists.specs.declared.rings.Place.TheVariants.{Head, Slot}
use Rattle.leo_lists.specs.declared.rings.Link.{Link}
use Rattle.leo_lists.specs.Rings.{Table, no_link, own_link, own_links, grown, IsPlace, link_at, IsJoined, IsChain, has, AreDistinct, list_at, StandOnce, HasLists}

own-snoc : (l n : ℕ) → own_links l (suc n) ≡ own_links l n ++ own_link (l + n) ∷ []
own-snoc l zero = let e : l ≡ l + 0 = omega arith in ap (λ (k : ℕ). own_link k ∷ []) e
own-snoc l (suc n) = let e : suc l + n ≡ l + suc n = omega arith in
    ap (λ (ks : List Link). own_link l ∷ ks) (own-snoc (suc l) n ∙ ap (λ (k : ℕ). own_links (suc l) n ++ own_link k ∷ []) e)

-- the heads once one more was added
pub one-more : (old now : List Link) (l m : ℕ) → l ≤ m → now ≡ old ++ own_links l (m - l) → now ++ own_link m ∷ [] ≡ old ++ own_links l (m + 1 - l)
one-more old now l m b e =
    let n : m + 1 - l ≡ suc (m - l) = omega (arith, b) in
    let k : l + (m - l) ≡ m = omega (arith, b) in
    rw (e, n, own-snoc l (m - l), k) (append_assoc old (own_links l (m - l)) (own_link m ∷ []))

own-length : (l n : ℕ) → length (own_links l n) ≡ n
own-length l zero = refl
own-length l (suc n) = ap suc (own-length (suc l) n)

own-at : (l n i : ℕ) → i < n → slice_index_or (own_links l n) i no_link ≡ own_link (l + i)
own-at l zero i b = (let f : ⊥ = omega (arith, b) in absurd f)
own-at l (suc n) zero b = let e : l ≡ l + 0 = omega arith in ap own_link e
own-at l (suc n) (suc i) b =
    let e : suc l + i ≡ l + suc i = omega arith in
    own-at (suc l) n i (omega (arith, b)) ∙ ap own_link e

module _ (t : Table) (n : ℕ) (more : List Link) where
  place-grown : (p : Place) → IsPlace t p → IsPlace (grown t n more) p
  place-grown (Head l) h = rw (length-append t.heads (own_links (length t.heads) n)) (omega (arith, h))
  place-grown (Slot s) h = rw (length-append t.slots more) (omega (arith, h))

  link-grown : (p : Place) → IsPlace t p → link_at (grown t n more) p ≡ link_at t p
  link-grown (Head l) h = get_or_append_left t.heads (own_links (length t.heads) n) no_link l h
  link-grown (Slot s) h = get_or_append_left t.slots more no_link s h

  joined-grown : (p q : Place) → IsJoined t p q → IsJoined (grown t n more) p q
  joined-grown p q h = (place-grown p h.0, place-grown q h.1, (rw (link-grown p h.0) h.2), (rw (link-grown q h.1) h.3))

  chain-grown : (p q : Place) (xs : List ℕ) → IsChain t p xs q → IsChain (grown t n more) p xs q
  chain-grown p q [] h = joined-grown p q h
  chain-grown p q (x ∷ xs) h = (joined-grown p (Slot x) h.0, chain-grown (Slot x) q xs h.1)

  heads-grown : length (grown t n more).heads ≡ length t.heads + n
  heads-grown = length-append t.heads (own_links (length t.heads) n) ∙ ap (λ (k : ℕ). length t.heads + k) (own-length (length t.heads) n)

  new-head : (l : ℕ) → length t.heads ≤ l → l < length t.heads + n → IsChain (grown t n more) (Head l) [] (Head l)
  new-head l b c =
      let e : length t.heads + (l - length t.heads) ≡ l = omega (arith, b) in
      let there : l < length (grown t n more).heads = rw heads-grown c in
      let link : link_at (grown t n more) (Head l) ≡ own_link l =
      subst (λ (k : ℕ). slice_index_or (grown t n more).heads k no_link ≡ own_link k) e
      (get_or-append-add t.heads (own_links (length t.heads) n) (l - length t.heads) no_link ∙ own-at (length t.heads) n (l - length t.heads) (omega (arith, b, c))) in
      (there, there, ap (λ (k : Link). k.after) link, ap (λ (k : Link). k.before) link)

-- empty lists behind those that are there
module _ (lists : List (List ℕ)) (n : ℕ) where
  old-list : (l : ℕ) → l < length lists → list_at (lists ++ replicate n []) l ≡ list_at lists l
  old-list l b = get_or_append_left lists (replicate n []) [] l b

  count-more : length (lists ++ replicate n []) ≡ length lists + n
  count-more = length-append lists (replicate n []) ∙ ap (λ (k : ℕ). length lists + k) (length-replicate n [])

  new-list : (l : ℕ) → length lists ≤ l → l < length lists + n → list_at (lists ++ replicate n []) l ≡ []
  new-list l b c =
      let e : length lists + (l - length lists) ≡ l = omega (arith, b) in
      subst (λ (k : ℕ). list_at (lists ++ replicate n []) k ≡ []) e
      (get_or-append-add lists (replicate n []) (l - length lists) [] ∙ get_or-replicate n (l - length lists) [] [] (omega (arith, b, c)))

  where-is : (l : ℕ) → (l < length lists) ⊎ (length lists ≤ l)
  where-is l = grind arith

  distinct-more : StandOnce lists → (l : ℕ) → l < length (lists ++ replicate n []) → AreDistinct (list_at (lists ++ replicate n []) l)
  distinct-more once l b = let c : l < length lists + n = rw count-more at b in elim (where-is l) [
    | inl d ↦ (rw (old-list l d) (once.in_list l d))
    | inr d ↦ (rw (new-list l d c) tt)
  ]

  one-list : StandOnce lists → (l m x : ℕ) → l < length (lists ++ replicate n []) → m < length (lists ++ replicate n []) → l ≢ m →
      has (list_at (lists ++ replicate n []) l) x ≡ true → has (list_at (lists ++ replicate n []) m) x ≡ false
  one-list once l m x b c ne h =
      let b' : l < length lists + n = rw count-more at b in
      let c' : m < length lists + n = rw count-more at c in
      elim (where-is m) [
        | inl e ↦ (elim (where-is l) [
          | inl d ↦ (rw (old-list m e) (once.in_one l m x d e ne (rw (old-list l d) at h)))
          | inr d ↦ (let f : has [] x ≡ true = rw (new-list l d b') at h in (let g : ⊥ = cc in absurd g))
        ])
        | inr e ↦ (rw (new-list m e c') refl)
      ]

  once-more : StandOnce lists → StandOnce (lists ++ replicate n [])
  once-more once = record { in_list = distinct-more once; in_one = one-list once }

pub grow : (t : Table) (lists : List (List ℕ)) (n : ℕ) (more : List Link) → HasLists t lists → HasLists (grown t n more) (lists ++ replicate n [])
grow t lists n more h = record {
  count = count-more lists n ∙ (rw h.count (sym (heads-grown t n more)));
  chained = λ l b. let c : l < length t.heads + n = rw (heads-grown t n more) at b in elim (where-is lists n l) [
    | inl d ↦ (rw (old-list lists n l d) (chain-grown t n more (Head l) (Head l) (list_at lists l) (h.chained l (rw (← h.count) d))))
    | inr d ↦ (rw (new-list lists n l d (rw h.count c)) (new-head t n more l (rw (← h.count) d) c))
  ];
  once = once-more lists n h.once;
}
