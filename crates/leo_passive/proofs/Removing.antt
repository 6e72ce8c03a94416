-- A clause taken out.
use Rattle.std.proofs.Common.{◌≡◌, inl, inr, ℕ, ◌+◌, ◌*◌, ◌<◌, Bool, true, false, ◌||◌, List, [], ◌∷◌, map, refl, sym, ◌∙◌, ap, eq-eqb, arith}
use Rattle.std.specs.Prelude.{nat_eq, nat_le}
use Rattle.std.proofs.lemmas.Bool.{or_cases}
use Rattle.std.proofs.lemmas.Bool.Decides.{nat_tests}
use Rattle.std.proofs.lemmas.List.{length-map}
use Rattle.std.proofs.Math.ListN.{get_or-map}
use Rattle.leo_lists.specs.Lists.{Lists}
use Rattle.leo_lists.specs.Rings.{has, list_at, Stands}
use Rattle.leo_lists.specs.Rings as rings
use Rattle.leo_passive.specs.Entries.{Entry, without, has_number}
use Rattle.leo_passive.specs.Table.{age_slot, weight_slot, list_of_weight, of_list, entries_of, HasEntries}
use Rattle.leo_passive.proofs.Numbers
use Rattle.leo_passive.proofs.Filters

-- the entries that a table shows are those that it has
pub entries_are : (slots : Lists) (weights : List ℕ) (es : List Entry) → HasEntries slots weights es → entries_of slots weights ≡ es
entries_are slots weights es h = rw h.ages (Filters.shown slots.slots weights es h.kept)

-- the slots without one
abbrev pub unlinked : Lists → ℕ → Lists
unlinked s x = record { slots = s.slots; lists = map (rings.without x) s.lists }

-- the slots without those of a number
abbrev pub removed : Lists → ℕ → Lists
removed s n = unlinked (unlinked s (2 * n)) (2 * n + 1)

list-unlinked : (s : Lists) (x k : ℕ) → list_at (unlinked s x).lists k ≡ rings.without x (list_at s.lists k)
list-unlinked s x k = get_or-map (rings.without x) s.lists k []

pub remove : (s : Lists) (weights : List ℕ) (es : List Entry) (n : ℕ) → HasEntries s weights es → HasEntries (removed s n) weights (without n es)
remove s weights es n h = record {
  many = length-map (unlinked s (2 * n)).lists (rings.without (2 * n + 1)) ∙ length-map s.lists (rings.without (2 * n)) ∙ h.many;
  room = h.room;
  few = h.few;
  ages = list-unlinked (unlinked s (2 * n)) (2 * n + 1) 0 ∙ ap (rings.without (2 * n + 1)) (list-unlinked s (2 * n) 0 ∙ ap (rings.without (2 * n)) h.ages ∙ Filters.age-without n es)
      ∙ Filters.age-untouched n (without n es);
  weighed = λ k a b. list-unlinked (unlinked s (2 * n)) (2 * n + 1) k
      ∙ ap (rings.without (2 * n + 1)) (list-unlinked s (2 * n) k ∙ ap (rings.without (2 * n)) (h.weighed k a b) ∙ Filters.weight-untouched n (of_list k es))
      ∙ Filters.weight-without n (of_list k es) ∙ ap (map weight_slot) (sym (Filters.list-without n k es));
  rising = Filters.rising-filter _ es h.rising;
  kept = Filters.kept-filter _ s.slots weights es h.kept;
}

-- the slots of a number that an entry has
has-age : (n : ℕ) (es : List Entry) → has_number n es ≡ true → has (map age_slot es) (2 * n) ≡ true
has-age n [] e = cc
has-age n (d ∷ es) e = elim (or_cases (nat_eq n d.number) (has_number n es) e) [
  | inl a ↦ rw (Numbers.even-even n d.number, a) refl
  | inr b ↦ or-right (nat_eq (2 * n) (2 * d.number)) (has (map age_slot es) (2 * n)) (has-age n es b)
] where
  or-right : (a b : Bool) → b ≡ true → (a || b) ≡ true
  or-right true b k = refl
  or-right false b k = k

has-weight : (n : ℕ) (es : List Entry) → has_number n es ≡ true → has (map weight_slot es) (2 * n + 1) ≡ true
has-weight n [] e = cc
has-weight n (d ∷ es) e = elim (or_cases (nat_eq n d.number) (has_number n es) e) [
  | inl a ↦ rw (Numbers.odd-odd n d.number, a) refl
  | inr b ↦ or-right (nat_eq (2 * n + 1) (2 * d.number + 1)) (has (map weight_slot es) (2 * n + 1)) (has-weight n es b)
] where
  or-right : (a b : Bool) → b ≡ true → (a || b) ≡ true
  or-right true b k = refl
  or-right false b k = k

-- the list of a weight
pub list-range : (w : ℕ) → (0 < list_of_weight w) × (list_of_weight w < 515)
list-range w = go (nat_le w 512) refl where
  go : (b : Bool) → nat_le w 512 ≡ b → (0 < list_of_weight w) × (list_of_weight w < 515)
  go true e = rw e (omega arith, grind (arith, nat_tests))
  go false e = rw e (omega arith, omega arith)

-- an entry of a number stands in the list of its weight
pub in-list : (n : ℕ) (es : List Entry) → has_number n es ≡ true → (k : ℕ) × (0 < k) × (k < 515) × (has_number n (of_list k es) ≡ true)
in-list n [] e = (let f : ⊥ = cc in absurd f)
in-list n (d ∷ es) e = elim (or_cases (nat_eq n d.number) (has_number n es) e) [
  | inl a ↦ (let r = list-range d.weight in (list_of_weight d.weight, r.0, r.1, (rw (eq-eqb (list_of_weight d.weight) (list_of_weight d.weight) refl, a) refl)))
  | inr b ↦ (let r = in-list n es b in (r.0, r.1, r.2, more (nat_eq (list_of_weight d.weight) r.0) r.0 refl r.3))
] where
  more : (c : Bool) (k : ℕ) → nat_eq (list_of_weight d.weight) k ≡ c → has_number n (of_list k es) ≡ true → has_number n (of_list k (d ∷ es)) ≡ true
  more true k x y = rw x (or-right (nat_eq n d.number) (has_number n (of_list k es)) y) where
    or-right : (a b : Bool) → b ≡ true → (a || b) ≡ true
    or-right true b z = refl
    or-right false b z = z
  more false k x y = rw x y

module _ (s : Lists) (weights : List ℕ) (es : List Entry) (n : ℕ) (h : HasEntries s weights es) (e : has_number n es ≡ true) where
  pub age-stands : Stands s.lists (2 * n)
  age-stands = (0, (rw h.many (omega arith)), (rw h.ages (has-age n es e)))

  pub weight-stands : Stands (unlinked s (2 * n)).lists (2 * n + 1)
  weight-stands =
      let r = in-list n es e in
      let there : list_at (unlinked s (2 * n)).lists r.0 ≡ map weight_slot (of_list r.0 es) =
      list-unlinked s (2 * n) r.0 ∙ ap (rings.without (2 * n)) (h.weighed r.0 r.1 r.2) ∙ Filters.weight-untouched n (of_list r.0 es) in
      (r.0, (rw (length-map s.lists (rings.without (2 * n)), h.many) r.2), (rw there (has-weight n (of_list r.0 es) r.3)))
