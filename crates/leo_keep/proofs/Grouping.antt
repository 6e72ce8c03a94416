-- Groups of clauses by heads, as they grow.
use Rattle.std.proofs.Common.{ℕ, zero, suc, ◌≡◌, ◌∙◌, ◌<◌, List, [], ◌∷◌, ◌++◌, length, slice_get, slice_index_or, slice_set, Option, Some, OnOk, OnErr, Result, Ok, Err, refl, ap, ◌⊎◌, inl, inr}
use Rattle.std.proofs.lemmas.Bool.{cases_eq}
use Rattle.std.proofs.lemmas.Option.{slice_get_within}
use Rattle.leo_keep.proofs.Numbers.{get-index}
use Rattle.leo_clause.specs.declared.clause.Lit.{Lit}
use Rattle.leo_keep.specs.declared.fronts.Front.{Front}
use Rattle.leo_keep.specs.declared.groups.Group.{Group}
use Rattle.leo_keep.specs.Groups.{AreGrouped, HasHeadsAt, IsFrontGrouped, IsGrouped, StayGrouped}

module _ {X : Type 0} where
  pub set-get-same : (xs : List X) (i : ℕ) (x y : X) → slice_get xs i ≡ Some x → slice_get (slice_set xs i y) i ≡ Some y
  set-get-same [] i x y e = absurd (let f : ⊥ = cc in f)
  set-get-same (z ∷ xs) zero x y e = refl
  set-get-same (z ∷ xs) (suc i) x y e = set-get-same xs i x y e

  pub set-get-other : (xs : List X) (i j : ℕ) (y : X) → (j ≡ i → ⊥) → slice_get (slice_set xs i y) j ≡ slice_get xs j
  set-get-other [] i j y n = refl
  set-get-other (z ∷ xs) zero zero y n = absurd (n refl)
  set-get-other (z ∷ xs) zero (suc j) y n = refl
  set-get-other (z ∷ xs) (suc i) zero y n = refl
  set-get-other (z ∷ xs) (suc i) (suc j) y n = set-get-other xs i j y (λ e. n (ap suc e))

  pub get-front : (xs ys : List X) (n : ℕ) (x : X) → slice_get xs n ≡ Some x → slice_get (xs ++ ys) n ≡ Some x
  get-front [] ys n x h = absurd (let f : ⊥ = cc in f)
  get-front (z ∷ xs) ys zero x h = h
  get-front (z ∷ xs) ys (suc n) x h = get-front xs ys n x h

  pub get-last : (xs : List X) (x : X) → slice_get (xs ++ x ∷ []) (length xs) ≡ Some x
  get-last [] x = refl
  get-last (z ∷ xs) x = get-last xs x

-- the numbers of the first group stand at the same places in the second
abbrev pub AreKept : Group → Group → Type 0
AreKept g h = (i n : ℕ) → slice_get g.numbers.items i ≡ Some n → slice_get h.numbers.items i ≡ Some n

pub kept-itself : (g h : Group) → h.numbers.items ≡ g.numbers.items → AreKept g h
kept-itself g h e i n k = rw e k

pub kept-pushed : (g h : Group) (n : ℕ) → h.numbers.items ≡ g.numbers.items ++ n ∷ [] → AreKept g h
kept-pushed g h m e i n k = rw e (get-front g.numbers.items (m ∷ []) i n k)

same-group : (o : Option Group) (g h : Group) → o ≡ Some g → o ≡ Some h → g ≡ h
same-group o g h e f = cc

module _ (groups : List Group) (place : ℕ) (g h : Group) (stands : slice_get groups place ≡ Some g) (heads : h.heads ≡ g.heads) where
  pub set-keeps : AreKept g h → StayGrouped groups (slice_set groups place h)
  set-keeps kept k n s =
      elim (cases_eq s.place place) [
        | inl e ↦
            (let at : slice_get groups place ≡ Some s.group = rw (← e) s.stands in
            let same : g ≡ s.group = same-group (slice_get groups place) g s.group stands at in
            record { place = place; group = h; stands = set-get-same groups place g h stands; heads_are = heads ∙ ap (λ (x : Group). x.heads) same ∙ s.heads_are; index = s.index; has = kept s.index n (rw same s.has) })
        | inr d ↦ record { place = s.place; group = s.group; stands = set-get-other groups place s.place h d ∙ s.stands; heads_are = s.heads_are; index = s.index; has = s.has }
      ]

  pub set-grouped : (k : Lit) (n : ℕ) → g.heads ≡ k → h.numbers.items ≡ g.numbers.items ++ n ∷ [] → IsGrouped (slice_set groups place h) k n
  set-grouped k n e p = record { place = place; group = h; stands = set-get-same groups place g h stands; heads_are = heads ∙ e; index = length g.numbers.items; has = rw p (get-last g.numbers.items n) }

pub push-keeps : (groups : List Group) (g : Group) → StayGrouped groups (groups ++ g ∷ [])
push-keeps groups g k n s = record { place = s.place; group = s.group; stands = get-front groups (g ∷ []) s.place s.group s.stands; heads_are = s.heads_are; index = s.index; has = s.has }

pub push-grouped : (groups : List Group) (g : Group) (n : ℕ) → g.numbers.items ≡ n ∷ [] → IsGrouped (groups ++ g ∷ []) g.heads n
push-grouped groups g n e = record { place = length groups; group = g; stands = get-last groups g; heads_are = refl; index = 0; has = ap (λ (ns : List ℕ). slice_get ns 0) e }

pub heads-at : (groups : List Group) (place : ℕ) (g : Group) (heads : Lit) → place < length groups → g ≡ slice_index_or groups place g → g.heads ≡ heads → HasHeadsAt groups place heads
heads-at groups place g heads l e h = record { group = g; stands = get-index groups place g l e; heads_are = h }

pub keeps-itself : (groups : List Group) → StayGrouped groups groups
keeps-itself groups k n s = s

pub at-place : (groups : List Group) (place : ℕ) (heads : Lit) (h : HasHeadsAt groups place heads) (g : Group) → slice_get groups place ≡ Some g → (g.heads ≡ heads)
at-place groups place heads h g e = (let same : g ≡ h.group = same-group (slice_get groups place) g h.group e h.stands in ap (λ (x : Group). x.heads) same ∙ h.heads_are)

-- the group of a place that a number came to, or none
module _ {E : Type 0} (groups : List Group) (place : ℕ) (g h : Group) (heads : Lit) (n : ℕ) (stands : slice_get groups place ≡ Some g) (same : h.heads ≡ g.heads) where
  pub put-there : (r : Result (Unit {0}) E) → OnOk r (h.numbers.items ≡ g.numbers.items ++ n ∷ []) → g.heads ≡ heads → OnOk r (IsGrouped (slice_set groups place h) heads n)
  put-there (Ok x) p e = set-grouped groups place g h stands same heads n e p
  put-there (Err x) p e = p

  pub put-keeps : (r : Result (Unit {0}) E) → OnOk r (h.numbers.items ≡ g.numbers.items ++ n ∷ []) → OnErr r (h.numbers.items ≡ g.numbers.items) → StayGrouped groups (slice_set groups place h)
  put-keeps (Ok x) p q = set-keeps groups place g h stands same (kept-pushed g h n p)
  put-keeps (Err x) p q = set-keeps groups place g h stands same (kept-itself g h q)

-- fronts with their groups
pub grouped-keep : (fronts : List (Option Front)) (old new : List Group) → AreGrouped fronts old → StayGrouped old new → AreGrouped fronts new
grouped-keep fronts old new h k n f e = k f.heads n (h n f e)

front-grouped : (groups : List Group) (o : Option Front) (f : Front) (n : ℕ) → IsFrontGrouped groups o n → o ≡ Some f → IsGrouped groups f.heads n
front-grouped groups o f n h e = (let g : IsFrontGrouped groups (Some f) n = rw e at h in g)

-- an item that came to the end stands in the front or is the last
get-added : {X : Type 0} (xs : List X) (x y : X) (n : ℕ) → slice_get (xs ++ x ∷ []) n ≡ Some y → (slice_get xs n ≡ Some y) ⊎ ((n ≡ length xs) × (x ≡ y))
get-added [] x y zero e = inr (refl, cc)
get-added [] x y (suc n) e = absurd (let f : ⊥ = cc in f)
get-added (z ∷ xs) x y zero e = inl e
get-added (z ∷ xs) x y (suc n) e =
    elim (get-added xs x y n e) [
      | inl h ↦ inl h
      | inr h ↦ inr (ap suc h.0, h.1)
    ]

pub grouped-added : (fronts : List (Option Front)) (front : Option Front) (groups : List Group) → AreGrouped fronts groups → IsFrontGrouped groups front (length fronts) → AreGrouped (fronts ++ front ∷ []) groups
grouped-added fronts front groups h g n f e =
    elim (get-added fronts front (Some f) n e) [
      | inl k ↦ h n f k
      | inr k ↦ rw k.0 (front-grouped groups front f (length fronts) g k.1)
    ]

pub item-at : (groups : List Group) (place : ℕ) (heads : Lit) (g : Group) → HasHeadsAt groups place heads → g ≡ slice_index_or groups place g → slice_get groups place ≡ Some g
item-at groups place heads g h e = get-index groups place g (slice_get_within groups place h.group h.stands) e
