-- Lists of slots and their entries.
use Rattle.std.proofs.Common.{◌≡◌, ℕ, ◌+◌, ◌*◌, Bool, true, false, not, List, [], ◌∷◌, map, refl, ◌∙◌, ap}
use Rattle.std.specs.Prelude.{nat_eq, filter}
use Rattle.leo_lists.specs.Rings as rings
use Rattle.leo_passive.specs.Entries.{Entry, without}
use Rattle.leo_passive.specs.Table.{age_slot, weight_slot, list_of_weight, of_list, AreAbove, IsRising, entry_at, AreKept}
use Rattle.leo_passive.proofs.Numbers

-- what the kept slots show
pub shown : (slots : ℕ) (weights : List ℕ) (es : List Entry) → AreKept slots weights es → map (entry_at weights) (map age_slot es) ≡ es
shown slots weights [] h = refl
shown slots weights (e ∷ es) h = rw (Numbers.half e.number, h.1) (ap (λ (ds : List Entry). e ∷ ds) (shown slots weights es h.2))

-- a test that fails everywhere keeps all
pub kept-all : {A : Type 0} (test : A → Bool) (xs : List A) → ((x : A) → test x ≡ true) → filter test xs ≡ xs
kept-all test [] f = refl
kept-all test (x ∷ xs) f = rw (f x) (ap (λ (ys : List _). x ∷ ys) (kept-all test xs f))

-- a filter of a map by a test that agrees
pub filter-map : {A B : Type 0} (f : A → B) (test : B → Bool) (mine : A → Bool) (xs : List A) → ((x : A) → test (f x) ≡ mine x) → filter test (map f xs) ≡ map f (filter mine xs)
filter-map f test mine [] h = refl
filter-map f test mine (x ∷ xs) h = go (mine x) refl (filter-map f test mine xs h) where
  go : (b : Bool) → mine x ≡ b → filter test (map f xs) ≡ map f (filter mine xs) → filter test (map f (x ∷ xs)) ≡ map f (filter mine (x ∷ xs))
  go true k r = rw (h x, k) (ap (λ (ys : List _). f x ∷ ys) r)
  go false k r = rw (h x, k) r

-- two filters in either order
pub filter-swap : {A : Type 0} (one two : A → Bool) (xs : List A) → filter one (filter two xs) ≡ filter two (filter one xs)
filter-swap one two [] = refl
filter-swap one two (x ∷ xs) = go (one x) (two x) refl refl (filter-swap one two xs) where
  go : (a b : Bool) → one x ≡ a → two x ≡ b → filter one (filter two xs) ≡ filter two (filter one xs) → filter one (filter two (x ∷ xs)) ≡ filter two (filter one (x ∷ xs))
  go true true e k r = rw (k, e, k) (ap (λ (ys : List _). x ∷ ys) r)
  go true false e k r = rw (k, e, k) r
  go false true e k r = rw (k, e) r
  go false false e k r = rw (k, e) r

-- a number's slots taken out of the slots of entries
pub age-without : (n : ℕ) (es : List Entry) → rings.without (2 * n) (map age_slot es) ≡ map age_slot (without n es)
age-without n es = filter-map age_slot (λ x. not (nat_eq (2 * n) x)) (λ (e : Entry). not (nat_eq n e.number)) es (λ e. ap not (Numbers.even-even n e.number))

pub weight-without : (n : ℕ) (es : List Entry) → rings.without (2 * n + 1) (map weight_slot es) ≡ map weight_slot (without n es)
weight-without n es = filter-map weight_slot (λ x. not (nat_eq (2 * n + 1) x)) (λ (e : Entry). not (nat_eq n e.number)) es (λ e. ap not (Numbers.odd-odd n e.number))

pub age-untouched : (n : ℕ) (es : List Entry) → rings.without (2 * n + 1) (map age_slot es) ≡ map age_slot es
age-untouched n es = filter-map age_slot (λ x. not (nat_eq (2 * n + 1) x)) (λ (e : Entry). true) es (λ e. ap not (Numbers.odd-even n e.number)) ∙ ap (map age_slot) (kept-all (λ (e : Entry). true) es (λ e. refl))

pub weight-untouched : (n : ℕ) (es : List Entry) → rings.without (2 * n) (map weight_slot es) ≡ map weight_slot es
weight-untouched n es = filter-map weight_slot (λ x. not (nat_eq (2 * n) x)) (λ (e : Entry). true) es (λ e. ap not (Numbers.even-odd n e.number)) ∙ ap (map weight_slot) (kept-all (λ (e : Entry). true) es (λ e. refl))

pub list-without : (n k : ℕ) (es : List Entry) → of_list k (without n es) ≡ without n (of_list k es)
list-without n k es = filter-swap (λ (e : Entry). nat_eq (list_of_weight e.weight) k) (λ (e : Entry). not (nat_eq n e.number)) es

-- what filters keep
pub above-filter : (test : Entry → Bool) (n : ℕ) (es : List Entry) → AreAbove n es → AreAbove n (filter test es)
above-filter test n [] h = tt
above-filter test n (e ∷ es) h = go (test e) refl (above-filter test n es h.1) where
  go : (b : Bool) → test e ≡ b → AreAbove n (filter test es) → AreAbove n (filter test (e ∷ es))
  go true k r = rw k (h.0, r)
  go false k r = rw k r

pub rising-filter : (test : Entry → Bool) (es : List Entry) → IsRising es → IsRising (filter test es)
rising-filter test [] h = tt
rising-filter test (e ∷ es) h = go (test e) refl (rising-filter test es h.1) where
  go : (b : Bool) → test e ≡ b → IsRising (filter test es) → IsRising (filter test (e ∷ es))
  go true k r = rw k (above-filter test e.number es h.0, r)
  go false k r = rw k r

pub kept-filter : (test : Entry → Bool) (slots : ℕ) (weights : List ℕ) (es : List Entry) → AreKept slots weights es → AreKept slots weights (filter test es)
kept-filter test slots weights [] h = tt
kept-filter test slots weights (e ∷ es) h = go (test e) refl (kept-filter test slots weights es h.2) where
  go : (b : Bool) → test e ≡ b → AreKept slots weights (filter test es) → AreKept slots weights (filter test (e ∷ es))
  go true k r = rw k (h.0, h.1, r)
  go false k r = rw k r
