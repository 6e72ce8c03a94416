-- What the calls need to know of the table, and what they make of it.
use Rattle.std.proofs.Common.{◌≡◌, ◌⊎◌, inl, inr, ℕ, suc, ◌+◌, ◌*◌, ◌^◌, ◌<◌, ◌≤◌, Bool, true, false, ◌||◌, List, [], ◌∷◌, ◌++◌, Option, Some, None, Result, Ok, Err, map, length, refl, sym, ◌∙◌, subst, ap, eq-eqb, arith}
use Rattle.std.specs.Prelude.{nat_eq, slice_get, slice_set, replicate, is_some, IfSome}
use Rattle.std.specs.Option.{option_map}
use Rattle.std.specs.Result.{IsErr, MatchResult}
use Rattle.std.proofs.lemmas.Bool.{or_cases, eqb-true}
use Rattle.std.proofs.lemmas.List.{append-nil, length-append, get_or_append_left, get_or-set_same, length-set, length-replicate, get_or-replicate}
use Rattle.leo_lists.specs.Lists.{Lists}
use Rattle.leo_lists.specs.Rings.{list_at, Stands, StandsNowhere}
use Rattle.leo_lists.specs.Rings as rings
use Rattle.leo_passive.specs.Entries.{Entry, AreBelow, without, has_number, IsOldest, IsLightest}
use Rattle.leo_passive.specs.Table.{age_slot, weight_slot, list_of_weight, of_list, IsRising, AreKept, entries_of, HasEntries, half, IsLonger}
use Rattle.leo_passive.proofs.Numbers
use Rattle.leo_passive.proofs.Removing
use Rattle.leo_passive.proofs.Adding
use Rattle.leo_passive.proofs.Looking
use Rattle.leo_passive.proofs.Walking

-- a table as the type keeps it, with the entries that a contract sees
abbrev pub Keeps : Lists → List ℕ → List Entry → Type 0
Keeps s weights es = HasEntries s weights (entries_of s weights) × (entries_of s weights ≡ es)

pub has : (s : Lists) (weights : List ℕ) (es : List Entry) → Keeps s weights es → HasEntries s weights es
has s weights es h = subst (HasEntries s weights) h.1 h.0

pub keeps : (s : Lists) (weights : List ℕ) (es : List Entry) → HasEntries s weights es → Keeps s weights es
keeps s weights es h = let e = Removing.entries_are s weights es h in (subst (HasEntries s weights) (sym e) h, e)

-- the slots of a number that stands are there
slots-of : (slots : ℕ) (weights : List ℕ) (es : List Entry) (n : ℕ) → AreKept slots weights es → has_number n es ≡ true → 2 * n + 1 < slots
slots-of slots weights [] n h e = (let f : ⊥ = cc in absurd f)
slots-of slots weights (d ∷ es) n h e = elim (or_cases (nat_eq n d.number) (has_number n es) e) [
  | inl a ↦ subst (λ (k : ℕ). 2 * k + 1 < slots) (sym (eqb-true n d.number a)) h.0
  | inr b ↦ slots-of slots weights es n h.2 b
]

pub small : (s : Lists) (weights : List ℕ) (es : List Entry) (n : ℕ) → HasEntries s weights es → has_number n es ≡ true → 2 * n + 1 < 2 ^ 32
small s weights es n h e =
    let a = slots-of s.slots weights es n h.kept e in
    let b = h.room in
    let c = h.few in
    omega (arith, a, b, c)

-- taking out
pub remove : (s t : Lists) (weights : List ℕ) (es : List Entry) (n : ℕ) → HasEntries s weights es → t ≡ Removing.removed s n → Keeps t weights (without n es)
remove s t weights es n h e = keeps t weights (without n es) (subst (λ (u : Lists). HasEntries u weights (without n es)) (sym e) (Removing.remove s weights es n h))

-- the table of no entries
pub nothing : (s : Lists) (weights : List ℕ) → s ≡ record { slots = 0; lists = replicate 515 [] } → weights ≡ [] → HasEntries s weights []
nothing s weights e f = subst (λ (u : Lists). HasEntries u weights []) (sym e) (subst (λ (ws : List ℕ). HasEntries (record { slots = 0; lists = replicate 515 [] }) ws []) (sym f) (record {
  many = length-replicate {A = List ℕ} 515 [];
  room = omega arith;
  few = omega arith;
  ages = get_or-replicate {A = List ℕ} 515 0 [] [] (omega arith);
  weighed = λ k a b. get_or-replicate {A = List ℕ} 515 k [] [] b;
  rising = tt;
  kept = tt;
}))

pub oldest : (s : Lists) (weights : List ℕ) (es : List Entry) (front result : Option ℕ) → HasEntries s weights es → front ≡ slice_get (list_at s.lists 0) 0 → result ≡ option_map half front → IsOldest es result
oldest s weights es front result h e f =
    let is : result ≡ option_map half (slice_get (map age_slot es) 0) = f ∙ ap (option_map half) (e ∙ ap (λ (xs : List ℕ). slice_get xs 0) h.ages) in
    subst (IsOldest es) (sym is) (Looking.oldest es h.rising)

-- a list of weights with a front
pub front-found : (s : Lists) (weights : List ℕ) (es : List Entry) (k : ℕ) (front : Option ℕ) → HasEntries s weights es → 0 < k → k < 514 → ((j : ℕ) → 0 < j → j < k → of_list j es ≡ []) →
    front ≡ slice_get (list_at s.lists k) 0 → is_some front ≡ true → IsLightest es (option_map half front)
front-found s weights es k front h a b none e some = go (of_list k es) refl where
  front-is : front ≡ slice_get (map weight_slot (of_list k es)) 0
  front-is = e ∙ ap (λ (xs : List ℕ). slice_get xs 0) (h.weighed k a (omega (arith, b)))

  go : (ds : List Entry) → ds ≡ of_list k es → IsLightest es (option_map half front)
  go [] q = let f : front ≡ None = front-is ∙ ap (λ (xs : List Entry). slice_get (map weight_slot xs) 0) (sym q) in
      (let g : is_some {T = ℕ} None ≡ true = subst (λ (o : Option ℕ). is_some o ≡ true) f some in (let x : ⊥ = cc in absurd x))
  go (d ∷ ds) q =
      let f : front ≡ Some (weight_slot d) = front-is ∙ ap (λ (xs : List Entry). slice_get (map weight_slot xs) 0) (sym q) in
      rw (f, Numbers.half_odd d.number) (Looking.lightest-of es k d ds h.rising b none (sym q))

pub front-missing : (s : Lists) (weights : List ℕ) (es : List Entry) (k : ℕ) (front : Option ℕ) → HasEntries s weights es → 0 < k → k < 514 → front ≡ slice_get (list_at s.lists k) 0 → is_some front ≡ false → of_list k es ≡ []
front-missing s weights es k front h a b e missing = go (of_list k es) refl where
  front-is : front ≡ slice_get (map weight_slot (of_list k es)) 0
  front-is = e ∙ ap (λ (xs : List ℕ). slice_get xs 0) (h.weighed k a (omega (arith, b)))

  go : (ds : List Entry) → ds ≡ of_list k es → of_list k es ≡ []
  go [] q = sym q
  go (d ∷ ds) q =
      let f : front ≡ Some (weight_slot d) = front-is ∙ ap (λ (xs : List Entry). slice_get (map weight_slot xs) 0) (sym q) in
      (let g : is_some (Some (weight_slot d)) ≡ false = subst (λ (o : Option ℕ). is_some o ≡ false) f missing in (let x : ⊥ = cc in absurd x))

-- one more list without entries
pub one-more : (es : List Entry) (k : ℕ) → ((j : ℕ) → 0 < j → j < k → of_list j es ≡ []) → of_list k es ≡ [] → (j : ℕ) → 0 < j → j < k + 1 → of_list j es ≡ []
one-more es k none e j a b = elim (below-or j k b) [ inl lt ↦ none j a lt | inr same ↦ subst (λ (i : ℕ). of_list i es ≡ []) (sym same) e ] where
  below-or : (i m : ℕ) → i < m + 1 → (i < m) ⊎ (i ≡ m)
  below-or i m c = grind (arith, c)

-- all entries are in the last list
pub all-heavy : (es : List Entry) → ((k : ℕ) → 0 < k → k < 514 → of_list k es ≡ []) → of_list 514 es ≡ es
all-heavy es none = same es (λ d i. at-end d i) where
  at-end : (d : Entry) → Looking.In d es → list_of_weight d.weight ≡ 514
  at-end d i =
      let r = Removing.list-range d.weight in
      let at : Looking.In d (of_list (list_of_weight d.weight) es) = Looking.in-filter (λ (x : Entry). nat_eq (list_of_weight x.weight) (list_of_weight d.weight)) es d i (eq-eqb (list_of_weight d.weight) (list_of_weight d.weight) refl) in
      elim (below-or (list_of_weight d.weight) 514 r.1) [
        | inl lt ↦ (let f : Looking.In d [] = subst (λ (xs : List Entry). Looking.In d xs) (none (list_of_weight d.weight) r.0 lt) at in absurd f)
        | inr e ↦ e
      ] where
        below-or : (i m : ℕ) → i < m + 1 → (i < m) ⊎ (i ≡ m)
        below-or i m c = grind (arith, c)

  same : (ds : List Entry) → ((d : Entry) → Looking.In d ds → list_of_weight d.weight ≡ 514) → of_list 514 ds ≡ ds
  same [] f = refl
  same (d ∷ ds) f = rw (f d (inl refl)) (ap (λ (xs : List Entry). d ∷ xs) (same ds (λ x i. f x (inr i))))

or-right : (a b : Bool) → b ≡ true → (a || b) ≡ true
or-right true b k = refl
or-right false b k = k

-- the slot of an entry is among those of all
has-in : (ds : List Entry) (d : Entry) → Looking.In d ds → rings.has (map weight_slot ds) (weight_slot d) ≡ true
has-in [] d k = absurd k
has-in (x ∷ ds) d (inl k) = rw (k, eq-eqb (2 * x.number + 1) (2 * x.number + 1) refl) refl
has-in (x ∷ ds) d (inr k) = or-right (nat_eq (weight_slot d) (weight_slot x)) (rings.has (map weight_slot ds) (weight_slot d)) (has-in ds d k)

module _ (s : Lists) (weights : List ℕ) (es : List Entry) (h : HasEntries s weights es) (none : (k : ℕ) → 0 < k → k < 514 → of_list k es ≡ []) where
  pub heavy : list_at s.lists 514 ≡ map weight_slot es
  heavy = h.weighed 514 (omega arith) (omega arith) ∙ ap (map weight_slot) (all-heavy es none)

  -- a slot of an entry is within the weights
  pub slot-within : (e : Entry) → Looking.In e es → half (weight_slot e) < length weights
  slot-within e i =
      let a = (Walking.kept-weight s.slots weights es h.kept e i).0 in
      let b = h.room in
      rw (Numbers.half_odd e.number) (omega (arith, a, b))

  pub best-within : (seen : List Entry) (best : Option ℕ) → Walking.BestOf seen best → ((e : Entry) → Looking.In e seen → Looking.In e es) → IfSome best (λ b. half b < length weights)
  best-within seen None b f = tt
  best-within seen (Some x) b f = subst (λ (y : ℕ). half y < length weights) (sym b.2) (slot-within b.0 (f b.0 b.1))

  pub walk-best : (best here : Option ℕ) (i : ℕ) → Walking.Walks es best here i → IfSome best (λ b. half b < length weights)
  walk-best best here i w = best-within w.seen best w.lightest (λ e k. subst (λ (ds : List Entry). Looking.In e ds) (sym w.parts) (Walking.in-left w.seen w.left e k))

  -- the slot at which the walk stands
  pub walk-slot : (best here : Option ℕ) (i slot : ℕ) → Walking.Walks es best here i → here ≡ Some slot → (half slot < length weights) × Stands s.lists slot × (slice_get (list_at s.lists 514) i ≡ Some slot)
  walk-slot best here i slot w e = go w.left w.parts (sym e ∙ w.here_is) where
    go : (left : List Entry) → es ≡ w.seen ++ left → Some slot ≡ option_map weight_slot (slice_get left 0) → (half slot < length weights) × Stands s.lists slot × (slice_get (list_at s.lists 514) i ≡ Some slot)
    go [] p q = (let f : ⊥ = cc in absurd f)
    go (d ∷ left) p q =
        let is : slot ≡ weight_slot d = cc in
        let inside : Looking.In d es = subst (λ (ds : List Entry). Looking.In d ds) (sym p) (Walking.in-right w.seen (d ∷ left) d (inl refl)) in (
          subst (λ (y : ℕ). half y < length weights) (sym is) (slot-within d inside),
          (514, (rw h.many (omega arith)), (rw (heavy, is) (has-in es d inside))),
          (rw heavy (Walking.stands es best here i slot w e)),
        )

  -- the walk is over once it took as many steps as there are weights
  pub walk-over : (best here : Option ℕ) (i : ℕ) → Walking.Walks es best here i → length weights ≤ i → Walking.BestOf es best
  walk-over best here i w b = go w.left w.parts where
    go : (left : List Entry) → es ≡ w.seen ++ left → Walking.BestOf es best
    go [] p = subst (λ (ds : List Entry). Walking.BestOf ds best) (sym (p ∙ append-nil w.seen)) w.lightest
    go (d ∷ left) p = (let f : ⊥ = too-many es refl p in absurd f) where
      too-many : (ds : List Entry) → ds ≡ es → es ≡ w.seen ++ d ∷ left → ⊥
      too-many [] q r = (let l : 0 ≡ length w.seen + suc (length left) = ap length (q ∙ r) ∙ length-append w.seen (d ∷ left) in omega (arith, l))
      too-many (x ∷ ds) q r =
          let rising : IsRising (x ∷ ds) = subst IsRising (sym q) h.rising in
          let below : (y : Entry) → Looking.In y (x ∷ ds) → y.number < length weights = λ y k. (let z = slot-within y (subst (λ (us : List Entry). Looking.In y us) q k) in (rw (Numbers.half_odd y.number) at z)) in
          let l : suc (length ds) ≡ length w.seen + suc (length left) = ap length (q ∙ r) ∙ length-append w.seen (d ∷ left) in
          let c = w.count in
          elim (Walking.few x.number (length weights) ds rising.0 rising.1 (λ y k. below y (inr k))) [
            | inl k ↦ omega (arith, k, l, c, b)
            | inr k ↦ (let e : length ds ≡ 0 = ap length k in let z = below x (inl refl) in omega (arith, e, l, c, b, z))
          ]

-- adding: the table with room for a number above all others
module _ (s t : Lists) (old new : List ℕ) (es : List Entry) (h : HasEntries s old es)
    (longer : IsLonger old new) (few : length new ≤ 2 ^ 30) (lists : t.lists ≡ s.lists) (more : s.slots ≤ t.slots) (room : t.slots ≤ 2 * length new) where
  kept : (ds : List Entry) → AreKept s.slots old ds → AreKept t.slots new ds
  kept [] k = tt
  kept (d ∷ ds) k =
      let a = k.0 in
      let b = h.room in
      (omega (arith, a, more), (rw longer.1 (get_or_append_left old longer.0 0 d.number (omega (arith, a, b)) ∙ k.1)), kept ds k.2)

  pub roomy : HasEntries t new es
  roomy = record {
    many = (rw lists h.many);
    room = room;
    few = few;
    ages = (rw lists h.ages);
    weighed = λ k a b. (rw lists (h.weighed k a b));
    rising = h.rising;
    kept = kept es h.kept;
  }

-- the weight of the new number, written
pub written : (s : Lists) (weights : List ℕ) (es : List Entry) (n w : ℕ) → HasEntries s weights es → AreBelow n es → HasEntries s (slice_set weights n w) es
written s weights es n w h b = record {
  many = h.many;
  room = (rw (length-set weights n w) h.room);
  few = (rw (length-set weights n w) h.few);
  ages = h.ages;
  weighed = h.weighed;
  rising = h.rising;
  kept = Adding.kept-written s.slots weights es n w b h.kept;
}

pub added : (s t : Lists) (weights : List ℕ) (es : List Entry) (n w : ℕ) → HasEntries s weights es → AreBelow n es → 2 * n + 1 < s.slots → n < length weights →
    t ≡ Adding.with_entry s (record { number = n; weight = w }) → Keeps t (slice_set weights n w) (es ++ record { number = n; weight = w } ∷ [])
added s t weights es n w h b room within e =
    let ws = slice_set weights n w in
    let k : HasEntries s ws es = written s weights es n w h b in
    let a = Adding.add s ws es (record { number = n; weight = w }) k b room (rw (length-set weights n w) within) (get_or-set_same weights n w 0 within) in
    keeps t ws (es ++ record { number = n; weight = w } ∷ []) (subst (λ (u : Lists). HasEntries u ws (es ++ record { number = n; weight = w } ∷ [])) (sym e) a)

-- the table with room, as the type keeps it
pub roomy-keeps : (s t : Lists) (old new : List ℕ) (es : List Entry) → Keeps s old es → IsLonger old new × (length new ≤ 2 ^ 30) → (t.lists ≡ s.lists) × (s.slots ≤ t.slots) × (t.slots ≤ 2 * length new) → Keeps t new es
roomy-keeps s t old new es h w l = keeps t new es (roomy s t old new es (has s old es h) w.0 w.1 l.0 l.1 l.2)

-- an error leaves what is said of it
pub on-err : {A B Q : Type 0} (P : A → Type 0) (r : Result A B) → IsErr r → Q → MatchResult r P (λ _. Q)
on-err P (Ok x) h q = (let f : ⊥ = cc in absurd f)
on-err P (Err x) h q = q

-- the slots of the new number are free
pub free-age : (s : Lists) (weights : List ℕ) (es : List Entry) (n w : ℕ) → Keeps s weights es → AreBelow n es → (n < length weights) × (2 * n + 1 < s.slots) → StandsNowhere s.lists (2 * n)
free-age s weights es n w h b r = Adding.age-nowhere s weights es (record { number = n; weight = w }) (has s weights es h) b r.1 r.0

pub free-weight : (s t : Lists) (weights : List ℕ) (es : List Entry) (n w : ℕ) → Keeps s weights es → AreBelow n es → (n < length weights) × (2 * n + 1 < s.slots) →
    t ≡ record { slots = s.slots; lists = rings.pushed s.lists 0 (2 * n) } → StandsNowhere t.lists (2 * n + 1)
free-weight s t weights es n w h b r e =
    subst (λ (u : Lists). StandsNowhere u.lists (2 * n + 1)) (sym e) (Adding.weight-nowhere s weights es (record { number = n; weight = w }) (has s weights es h) b r.1 r.0)

pub added-keeps : (s t : Lists) (weights : List ℕ) (es : List Entry) (n w : ℕ) → Keeps s weights es → AreBelow n es → (n < length weights) × (2 * n + 1 < s.slots) →
    t ≡ Adding.with_entry s (record { number = n; weight = w }) → Keeps t (slice_set weights n w) (es ++ record { number = n; weight = w } ∷ [])
added-keeps s t weights es n w h b r e = added s t weights es n w (has s weights es h) b r.1 r.0 e
