-- How the entries stand in lists of slots.
use Rattle.std.specs.Prelude.{◌≡◌, ℕ, suc, ◌+◌, ◌*◌, ◌/◌, ◌^◌, ◌<◌, ◌≤◌, List, [], ◌∷◌, ◌++◌, Option, Some, None, map, filter, length, nat_eq, nat_le, slice_index_or, if◌then◌else◌}
use Rattle.leo_lists.specs.Lists.{Lists}
use Rattle.leo_lists.specs.Rings.{list_at}
use Rattle.leo_passive.specs.Entries.{Entry}

-- a clause has two slots: one in the list of all by age, one in the list of its weight
abbrev pub age_slot : Entry → ℕ
age_slot e = 2 * e.number

abbrev pub weight_slot : Entry → ℕ
weight_slot e = 2 * e.number + 1

-- the list of a weight: lists 1 to 513 are for the weights 0 to 512, and list 514 for all heavier clauses
abbrev pub list_of_weight : ℕ → ℕ
list_of_weight w = if nat_le w 512 then suc w else 514

-- the entries of a list of weights
abbrev pub of_list : ℕ → List Entry → List Entry
of_list k es = filter (λ (e : Entry). nat_eq (list_of_weight e.weight) k) es

-- the numbers are all above n
abbrev pub AreAbove : ℕ → List Entry → Type 0
AreAbove n [] = Unit {0}
AreAbove n (d ∷ ds) = (n < d.number) × AreAbove n ds

-- the numbers rise
abbrev pub IsRising : List Entry → Type 0
IsRising [] = Unit {0}
IsRising (e ∷ es) = AreAbove e.number es × IsRising es

-- the entry whose age slot this is
abbrev pub entry_at : List ℕ → ℕ → Entry
entry_at weights slot = record { number = slot / 2; weight = slice_index_or weights (slot / 2) 0 }

-- the entries that a table shows, by age
abbrev pub entries_of : Lists → List ℕ → List Entry
entries_of slots weights = map (entry_at weights) (list_at slots.lists 0)

-- the entries' slots are there, and their weights are those that are kept
abbrev pub AreKept : ℕ → List ℕ → List Entry → Type 0
AreKept slots weights [] = Unit {0}
AreKept slots weights (e ∷ es) = (2 * e.number + 1 < slots) × (slice_index_or weights e.number 0 ≡ e.weight) × AreKept slots weights es

-- the table has these entries
pub record HasEntries (slots : Lists) (weights : List ℕ) (es : List Entry) : Type 0 where
  pub many : length slots.lists ≡ 515
  pub room : slots.slots ≤ 2 * length weights
  pub few : length weights ≤ 2 ^ 30
  pub ages : list_at slots.lists 0 ≡ map age_slot es
  pub weighed : (k : ℕ) → 0 < k → k < 515 → list_at slots.lists k ≡ map weight_slot (of_list k es)
  pub rising : IsRising es
  pub kept : AreKept slots.slots weights es

-- the number of a slot
abbrev pub half : ℕ → ℕ
half slot = slot / 2

-- the weight of a slot
abbrev pub slot_weight : List ℕ → ℕ → ℕ
slot_weight weights slot = slice_index_or weights (slot / 2) 0

-- the lighter of two slots, the first where they weigh the same
abbrev pub lighter_of : List ℕ → Option ℕ → ℕ → ℕ
lighter_of weights None slot = slot
lighter_of weights (Some best) slot = if nat_le (slot_weight weights best) (slot_weight weights slot) then best else slot

-- the list with more behind it
abbrev pub IsLonger : List ℕ → List ℕ → Type 0
IsLonger old new = (more : List ℕ) × (new ≡ old ++ more)
