-- Rings of places, and the lists that stand in them.
use Rattle.std.specs.Prelude.{◌≡◌, ◌≢◌, ℕ, zero, suc, ◌<◌, Bool, true, false, nat_eq, List, [], ◌∷◌, ◌++◌, map, filter, not, length, Option, Some, None, slice_index_or, slice_set}
use Rattle.std.specs.List.{list_any}
use Rattle.leo_lists.specs.declared.rings.Place.{Place}
use Rattle.leo_lists.specs.declared.rings.Place.TheVariants.{Head, Slot}
use Rattle.leo_lists.specs.declared.rings.Link.{Link}

-- the links of all heads and of all slots
pub record Table : Type 0 where
  pub heads : List Link
  pub slots : List Link

-- a link for places that are not there
abbrev pub no_link : Link
no_link = record { before = Head 0; after = Head 0 }

-- the place is there
abbrev pub IsPlace : Table → Place → Type 0
IsPlace t (Head l) = l < length t.heads
IsPlace t (Slot s) = s < length t.slots

-- the link of a place
abbrev pub link_at : Table → Place → Link
link_at t (Head l) = slice_index_or t.heads l no_link
link_at t (Slot s) = slice_index_or t.slots s no_link

-- the table with another link at a place
abbrev pub with_link : Table → Place → Link → Table
with_link t (Head l) k = record t { heads = slice_set t.heads l k }
with_link t (Slot s) k = record t { slots = slice_set t.slots s k }

abbrev pub with_after : Table → Place → Place → Table
with_after t p q = with_link t p (record { before = (link_at t p).before; after = q })

abbrev pub with_before : Table → Place → Place → Table
with_before t p q = with_link t p (record { before = q; after = (link_at t p).after })

-- the table once q comes right after p
abbrev pub joined : Table → Place → Place → Table
joined t p q = with_before (with_after t p q) q p

-- the link of the head of an empty list
abbrev pub own_link : ℕ → Link
own_link l = record { before = Head l; after = Head l }

-- the links of the heads of n empty lists, from number l on
abbrev pub own_links : ℕ → ℕ → List Link
own_links l zero = []
own_links l (suc n) = own_link l ∷ own_links (suc l) n

-- more heads and slots behind those of the table
abbrev pub grown : Table → ℕ → List Link → Table
grown t n more = record { heads = t.heads ++ own_links (length t.heads) n; slots = t.slots ++ more }

-- q comes right after p
abbrev pub IsJoined : Table → Place → Place → Type 0
IsJoined t p q = IsPlace t p × IsPlace t q × ((link_at t p).after ≡ q) × ((link_at t q).before ≡ p)

-- from p by the slots xs to q, each right after the one before it
abbrev pub IsChain : Table → Place → List ℕ → Place → Type 0
IsChain t p [] q = IsJoined t p q
IsChain t p (x ∷ xs) q = IsJoined t p (Slot x) × IsChain t (Slot x) xs q

-- the slots from a place on up to a head, at most n of them
abbrev pub walk : ℕ → List Link → Place → List ℕ
walk zero links p = []
walk (suc n) links (Head l) = []
walk (suc n) links (Slot s) = s ∷ walk n links (slice_index_or links s no_link).after

-- the lists of the table
abbrev pub lists_of : Table → List (List ℕ)
lists_of t = map (λ (k : Link). walk (suc (length t.slots)) t.slots k.after) t.heads

-- whether the slot stands in the list
abbrev pub has : List ℕ → ℕ → Bool
has xs x = list_any (nat_eq x) xs

-- no slot comes twice
abbrev pub AreDistinct : List ℕ → Type 0
AreDistinct [] = Unit {0}
AreDistinct (x ∷ xs) = (has xs x ≡ false) × AreDistinct xs

-- the list of a number
abbrev pub list_at : List (List ℕ) → ℕ → List ℕ
list_at lists l = slice_index_or lists l []

-- no slot stands twice in one list, or in two lists
pub record StandOnce (lists : List (List ℕ)) : Type 0 where
  pub in_list : (l : ℕ) → l < length lists → AreDistinct (list_at lists l)
  pub in_one : (l m x : ℕ) → l < length lists → m < length lists → l ≢ m → has (list_at lists l) x ≡ true → has (list_at lists m) x ≡ false

-- the slot stands in no list
abbrev pub StandsNowhere : List (List ℕ) → ℕ → Type 0
StandsNowhere lists s = (l : ℕ) → l < length lists → has (list_at lists l) s ≡ false

-- the slot stands in a list
abbrev pub Stands : List (List ℕ) → ℕ → Type 0
Stands lists s = (l : ℕ) × (l < length lists) × (has (list_at lists l) s ≡ true)

-- the lists with the slot as the last of list l
abbrev pub pushed : List (List ℕ) → ℕ → ℕ → List (List ℕ)
pushed lists l s = slice_set lists l (list_at lists l ++ s ∷ [])

-- the list without the slot
abbrev pub without : ℕ → List ℕ → List ℕ
without s xs = filter (λ x. not (nat_eq s x)) xs

-- the table has these lists, one for each head, and each slot stands at most once in them
pub record HasLists (t : Table) (lists : List (List ℕ)) : Type 0 where
  pub count : length lists ≡ length t.heads
  pub chained : (l : ℕ) → l < length t.heads → IsChain t (Head l) (list_at lists l) (Head l)
  pub once : StandOnce lists

-- the slot of a place, unless it is a head
abbrev pub slot_of : Place → Option ℕ
slot_of (Head l) = None
slot_of (Slot s) = Some s
