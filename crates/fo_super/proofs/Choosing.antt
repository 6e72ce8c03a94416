-- The clause that is given, and lists of passive clauses.
use Rattle.std.proofs.Common.{ℕ, zero, suc, ◌≡◌, ◌∙◌, ◌+◌, ◌*◌, ◌-◌, ◌<◌, ◌≤◌, ◌%◌, ◌/◌, ◌⊎◌, ◌||◌, Bool, true, false, List, [], ◌∷◌, ◌++◌, length, map, not, nat_eq, slice_get, Some, refl, sym, ap, subst, arith, append_assoc, length-append, inl, inr}
use Rattle.std.specs.Prelude.{cond, filter}
use Rattle.std.specs.List.{list_any, AllByRecursion}
use Rattle.std.proofs.lemmas.Bool.{cases_eq, cases_lt}
use Rattle.std.proofs.lemmas.Bool.Decides.{nat_tests}
use Rattle.fo_text.specs.declared.problem.FoClause.{FoClause}
use Rattle.fo_replay.specs.Replays.{clause_weight}
use Rattle.fo_super.specs.declared.turning.Weighed.{Weighed}
use Rattle.fo_super.specs.Members.{numbered_from, actives}
use Rattle.fo_super.specs.Passives.{ArePartners, IsFirst, IsRisingFrom, others_from, without}
use Rattle.fo_super.specs.Turns.{IsBefore, IsByNumber, numbers_from}
use Rattle.fo_super.proofs.Answering.{equal-numbers, get-within, other-number, same-item, same-number}
use Rattle.fo_super.proofs.Sorting.{all-at, all-both}

-- the numbers rise
rising-low : (k : ℕ) (ns : List ℕ) (i x : ℕ) → IsRisingFrom k ns → slice_get ns i ≡ Some x → k ≤ x
rising-low k [] i x h e = absurd (let f : ⊥ = cc in f)
rising-low k (n ∷ ns) zero x h e = let f : n ≡ x = cc in let l : k ≤ n = h.0 in omega arith
rising-low k (n ∷ ns) (suc i) x h e = let l : k ≤ n = h.0 in let m = rising-low (suc n) ns i x h.1 e in omega arith

pub rising-less : (k : ℕ) (ns : List ℕ) (i j x y : ℕ) → IsRisingFrom k ns → slice_get ns i ≡ Some x → slice_get ns j ≡ Some y → i < j → x < y
rising-less k [] i j x y h e f l = absurd (let g : ⊥ = cc in g)
rising-less k (n ∷ ns) i zero x y h e f l = absurd (omega arith)
rising-less k (n ∷ ns) zero (suc j) x y h e f l = let g : n ≡ x = cc in let m = rising-low (suc n) ns j y h.1 f in omega arith
rising-less k (n ∷ ns) (suc i) (suc j) x y h e f l = rising-less (suc n) ns i j x y h.1 e f (omega arith)

-- the first is the least
pub first-by-number : (clauses : List FoClause) (ns : List ℕ) (g : ℕ) (c : FoClause) → IsRisingFrom 0 ns → slice_get ns 0 ≡ Some g → slice_get clauses g ≡ Some c → IsFirst true clauses ns g
first-by-number clauses ns g c h e f = record { clause = c; place = 0; stands = e; clause_at = f; first = at }
  where
    at : (i n : ℕ) → slice_get ns i ≡ Some n → (n ≡ g) ⊎ IsBefore true clauses g n
    at zero n k = inl (same-item (slice_get ns 0) n g k e)
    at (suc i) n k = inr (rising-less 0 ns 0 (suc i) g n h e k (omega arith))

-- the lightest so far
pub record IsLightest (clauses : List FoClause) (ns : List ℕ) (best place least : ℕ) : Type 0 where
  pub number : ℕ
  pub clause : FoClause
  pub stands : slice_get ns best ≡ Some number
  pub clause_at : slice_get clauses number ≡ Some clause
  pub weighs : least ≡ clause_weight clause
  pub below : best < place
  pub first : (i n : ℕ) → i < place → slice_get ns i ≡ Some n → (n ≡ number) ⊎ IsBefore false clauses number n

module _ (clauses : List FoClause) (ns : List ℕ) (rising : IsRisingFrom 0 ns) where
  pub lightest-first : (g : ℕ) (c : FoClause) (w : ℕ) → slice_get ns 0 ≡ Some g → slice_get clauses g ≡ Some c → w ≡ clause_weight c → IsLightest clauses ns 0 1 w
  lightest-first g c w e f h = record { number = g; clause = c; stands = e; clause_at = f; weighs = h; below = omega arith; first = at }
    where
      at : (i n : ℕ) → i < 1 → slice_get ns i ≡ Some n → (n ≡ g) ⊎ IsBefore false clauses g n
      at zero n l k = inl (same-item (slice_get ns 0) n g k e)
      at (suc i) n l k = absurd (omega arith)

  pub lightest-passed : (best place least n : ℕ) (c : FoClause) → IsLightest clauses ns best place least → slice_get ns place ≡ Some n → slice_get clauses n ≡ Some c → least ≤ clause_weight c → IsLightest clauses ns best (place + 1) least
  lightest-passed best place least n c h e f l = record { number = h.number; clause = h.clause; stands = h.stands; clause_at = h.clause_at; weighs = h.weighs; below = (let b = h.below in omega arith); first = at }
    where
      here : (m : ℕ) → slice_get ns place ≡ Some m → (m ≡ h.number) ⊎ IsBefore false clauses h.number m
      here m k =
          let same : n ≡ m = same-item (slice_get ns place) n m e k in
          let less : h.number < n = rising-less 0 ns best place h.number n rising h.stands e h.below in
          subst (λ (x : ℕ). (x ≡ h.number) ⊎ IsBefore false clauses h.number x) same
          (elim (cases_lt (clause_weight h.clause) (clause_weight c)) [
            | inl a ↦ inr (h.clause, c, h.clause_at, f, inl a)
            | inr a ↦ inr (h.clause, c, h.clause_at, f, inr ((let w = h.weighs in let b : clause_weight h.clause ≡ clause_weight c = omega arith in b), less))
          ])

      at : (i m : ℕ) → i < place + 1 → slice_get ns i ≡ Some m → (m ≡ h.number) ⊎ IsBefore false clauses h.number m
      at i m b k = elim (cases_eq i place) [
        | inl s ↦ here m (rw s at k)
        | inr s ↦ h.first i m (omega arith) k
      ]

  pub lightest-next : (best place least n w : ℕ) (c : FoClause) → IsLightest clauses ns best place least → slice_get ns place ≡ Some n → slice_get clauses n ≡ Some c → w ≡ clause_weight c → w < least → IsLightest clauses ns place (place + 1) w
  lightest-next best place least n w c h e f v l = record { number = n; clause = c; stands = e; clause_at = f; weighs = v; below = omega arith; first = at }
    where
      lighter : (m : ℕ) → (m ≡ h.number) ⊎ IsBefore false clauses h.number m → IsBefore false clauses n m
      lighter m (inl s) = (c, h.clause, f, (ap (slice_get clauses) s ∙ h.clause_at), inl (let a = h.weighs in omega arith))
      lighter m (inr (x, d, p, q, inl s)) = (c, d, f, q, inl (let a = h.weighs in let b : clause_weight x ≡ clause_weight h.clause = ap clause_weight (same-item (slice_get clauses h.number) x h.clause p h.clause_at) in omega arith))
      lighter m (inr (x, d, p, q, inr s)) = (c, d, f, q, inl (let a = h.weighs in let b : clause_weight x ≡ clause_weight h.clause = ap clause_weight (same-item (slice_get clauses h.number) x h.clause p h.clause_at) in let r : clause_weight x ≡ clause_weight d = s.0 in omega arith))

      at : (i m : ℕ) → i < place + 1 → slice_get ns i ≡ Some m → (m ≡ n) ⊎ IsBefore false clauses n m
      at i m b k = elim (cases_eq i place) [
        | inl s ↦ inl (same-item (slice_get ns place) m n (rw s at k) e)
        | inr s ↦ inr (lighter m (h.first i m (omega arith) k))
      ]

pub lightest-all : (clauses : List FoClause) (ns : List ℕ) (best place least : ℕ) → IsLightest clauses ns best place least → length ns ≤ place → (g : ℕ) → slice_get ns best ≡ Some g → IsFirst false clauses ns g
lightest-all clauses ns best place least h l g e =
    let same : h.number ≡ g = same-item (slice_get ns best) h.number g h.stands e in
    subst (IsFirst false clauses ns) same (record { clause = h.clause; place = best; stands = h.stands; clause_at = h.clause_at; first = λ i n k. h.first i n (let b = get-within ns i n k in omega arith) k })

-- whether a turn goes by numbers
pub kind-true : (t : ℕ) → t % 5 ≡ 0 → IsByNumber t true
kind-true t e = (t / 5, (let f : t ≡ 5 * (t / 5) = omega arith in f))

pub kind-false : (t : ℕ) → (t % 5 ≡ 0 → ⊥) → IsByNumber t false
kind-false t f n e = f (let g : t % 5 ≡ 0 = omega arith in g)

-- a list without one number
pub all-filtered : (P : ℕ → Type 0) (t : ℕ → Bool) (ns : List ℕ) → AllByRecursion P ns → AllByRecursion P (filter t ns)
all-filtered P t [] h = tt
all-filtered P t (n ∷ ns) h = go (t n) (all-filtered P t ns h.1)
  where
    go : (b : Bool) → AllByRecursion P (filter t ns) → AllByRecursion P (cond b (n ∷ filter t ns) (filter t ns))
    go true k = (h.0, k)
    go false k = k

pub rising-weaker : (k l : ℕ) (ns : List ℕ) → k ≤ l → IsRisingFrom l ns → IsRisingFrom k ns
rising-weaker k l [] a h = tt
rising-weaker k l (n ∷ ns) a h = ((let b : l ≤ n = h.0 in let c : k ≤ n = omega arith in c), h.1)

pub rising-filtered : (k : ℕ) (t : ℕ → Bool) (ns : List ℕ) → IsRisingFrom k ns → IsRisingFrom k (filter t ns)
rising-filtered k t [] h = tt
rising-filtered k t (n ∷ ns) h = go (t n) (rising-filtered (suc n) t ns h.1)
  where
    go : (b : Bool) → IsRisingFrom (suc n) (filter t ns) → IsRisingFrom k (cond b (n ∷ filter t ns) (filter t ns))
    go true r = (h.0, r)
    go false r = rising-weaker k (suc n) (filter t ns) (let a : k ≤ n = h.0 in omega arith) r

rising-append : (k m : ℕ) (ns ms : List ℕ) → k ≤ m → IsRisingFrom k ns → AllByRecursion (λ (n : ℕ). n < m) ns → IsRisingFrom m ms → IsRisingFrom k (ns ++ ms)
rising-append k m [] ms l h a r = rising-weaker k m ms l r
rising-append k m (n ∷ ns) ms l h a r = (h.0, rising-append (suc n) m ns ms (let b : n < m = a.0 in omega arith) h.1 a.1 r)

pub rising-numbers : (n k : ℕ) → IsRisingFrom n (numbers_from n k)
rising-numbers n zero = tt
rising-numbers n (suc k) = ((let a : n ≤ n = omega arith in a), rising-numbers (suc n) k)

pub numbers-below : (n k m : ℕ) → n + k ≤ m → AllByRecursion (λ (i : ℕ). i < m) (numbers_from n k)
numbers-below n zero m l = tt
numbers-below n (suc k) m l = ((let a : n < m = omega arith in a), numbers-below (suc n) k m (omega arith))

all-longer : (ns : List ℕ) (m n : ℕ) → m ≤ n → AllByRecursion (λ (i : ℕ). i < m) ns → AllByRecursion (λ (i : ℕ). i < n) ns
all-longer [] m n l h = tt
all-longer (x ∷ ns) m n l h = ((let a : x < m = h.0 in let b : x < n = omega arith in b), all-longer ns m n l h.1)

-- the passive clauses after a turn
pub turned-rising : (g more count : ℕ) (ns : List ℕ) → IsRisingFrom 0 ns → AllByRecursion (λ (n : ℕ). n < count) ns → IsRisingFrom 0 (without g ns ++ numbers_from count more)
turned-rising g more count ns h a =
    rising-append 0 count (without g ns) (numbers_from count more) (omega arith) (rising-filtered 0 (λ n. not (nat_eq n g)) ns h) (all-filtered (λ (n : ℕ). n < count) (λ n. not (nat_eq n g)) ns a) (rising-numbers count more)

pub turned-named : (g more count : ℕ) (ns : List ℕ) → AllByRecursion (λ (n : ℕ). n < count) ns → AllByRecursion (λ (n : ℕ). n < count + more) (without g ns ++ numbers_from count more)
turned-named g more count ns a =
    all-both (λ (n : ℕ). n < count + more) (without g ns) (numbers_from count more) (all-longer (without g ns) count (count + more) (omega arith) (all-filtered (λ (n : ℕ). n < count) (λ n. not (nat_eq n g)) ns a)) (numbers-below count more (count + more) (omega arith))

-- numbers that are not among some
others-above : (n : ℕ) (ns : List ℕ) (m k : ℕ) → n < m → others_from m k (n ∷ ns) ≡ others_from m k ns
others-above n ns m zero l = refl
others-above n ns m (suc k) l =
    ap (λ b. cond (not (b || list_any (nat_eq m) ns)) (m ∷ others_from (suc m) k (n ∷ ns)) (others_from (suc m) k (n ∷ ns))) (other-number m n (λ e. (let f : ⊥ = omega arith in f)))
    ∙ ap (λ (x : List ℕ). cond (not (list_any (nat_eq m) ns)) (m ∷ x) x) (others-above n ns (suc m) k (omega arith))

pub others-passed : (n k : ℕ) (ns : List ℕ) → others_from n (suc k) (n ∷ ns) ≡ others_from (suc n) k ns
others-passed n k ns =
    ap (λ b. cond (not (b || list_any (nat_eq n) ns)) (n ∷ others_from (suc n) k (n ∷ ns)) (others_from (suc n) k (n ∷ ns))) (same-number n) ∙ others-above n ns (suc n) k (omega arith)

not-listed : (n m : ℕ) (ns : List ℕ) → n < m → IsRisingFrom m ns → list_any (nat_eq n) ns ≡ false
not-listed n m [] l h = refl
not-listed n m (x ∷ ns) l h =
    ap (λ b. b || list_any (nat_eq n) ns) (other-number n x (λ e. (let a : m ≤ x = h.0 in let f : ⊥ = omega arith in f))) ∙ not-listed n (suc x) ns (let a : m ≤ x = h.0 in omega arith) h.1

pub others-taken : (n k : ℕ) (ns : List ℕ) → IsRisingFrom (suc n) ns → others_from n (suc k) ns ≡ n ∷ others_from (suc n) k ns
others-taken n k ns h = ap (λ b. cond (not b) (n ∷ others_from (suc n) k ns) (others_from (suc n) k ns)) (not-listed n (suc n) ns (omega arith) h)

pub rising-past : (n : ℕ) (ns : List ℕ) → IsRisingFrom n ns → ((ms : List ℕ) → ns ≡ n ∷ ms → ⊥) → IsRisingFrom (suc n) ns
rising-past n [] h f = tt
rising-past n (x ∷ ns) h f = ((let a : n ≤ x = h.0 in let g : x ≡ n → ⊥ = (λ e. f ns (ap (λ (y : ℕ). y ∷ ns) e)) in go a g), h.1)
  where
    go : n ≤ x → (x ≡ n → ⊥) → suc n ≤ x
    go a g = elim (cases_eq x n) [ inl e ↦ absurd (g e) | inr e ↦ omega arith ]

-- the active clauses by their numbers
first-of : (b : Bool) (x : ℕ × FoClause) (rest : List (ℕ × FoClause)) → map (λ x. x.0) (cond b (x ∷ rest) rest) ≡ cond b (x.0 ∷ map (λ x. x.0) rest) (map (λ x. x.0) rest)
first-of true x rest = refl
first-of false x rest = refl

active-numbers : (passive : List ℕ) (n : ℕ) (cs : List FoClause) → map (λ x. x.0) (filter (λ x. not (list_any (nat_eq x.0) passive)) (numbered_from n cs)) ≡ others_from n (length cs) passive
active-numbers passive n [] = refl
active-numbers passive n (c ∷ cs) = first-of (not (list_any (nat_eq n) passive)) (n, c) (filter (λ x. not (list_any (nat_eq x.0) passive)) (numbered_from (suc n) cs)) ∙ ap (λ (z : List ℕ). cond (not (list_any (nat_eq n) passive)) (n ∷ z) z) (active-numbers passive (suc n) cs)

all-kept : {X : Type 0} (P : X → Type 0) (t : X → Bool) (xs : List X) → AllByRecursion P xs → AllByRecursion P (filter t xs)
all-kept P t [] h = tt
all-kept {X} P t (x ∷ xs) h = go (t x) (all-kept P t xs h.1)
  where
    go : (b : Bool) → AllByRecursion P (filter t xs) → AllByRecursion P (cond b (x ∷ filter t xs) (filter t xs))
    go true k = (h.0, k)
    go false k = k

numbered-stand : (clauses : List FoClause) (n : ℕ) (cs : List FoClause) → ((i : ℕ) (x : FoClause) → slice_get cs i ≡ Some x → slice_get clauses (n + i) ≡ Some x) → AllByRecursion (λ (x : ℕ × FoClause). slice_get clauses x.0 ≡ Some x.1) (numbered_from n cs)
numbered-stand clauses n [] h = tt
numbered-stand clauses n (c ∷ cs) h =
    (ap (slice_get clauses) (let e : n ≡ n + 0 = omega arith in e) ∙ h 0 c refl, numbered-stand clauses (suc n) cs (λ i x e. ap (slice_get clauses) (let f : suc n + i ≡ n + suc i = omega arith in f) ∙ h (suc i) x e))

pub active-partners : (clauses : List FoClause) (passive : List ℕ) → ArePartners clauses (others_from 0 (length clauses) passive) (actives clauses passive)
active-partners clauses passive =
    (sym (active-numbers passive 0 clauses), all-kept (λ (x : ℕ × FoClause). slice_get clauses x.0 ≡ Some x.1) (λ x. not (list_any (nat_eq x.0) passive)) (numbered_from 0 clauses) (numbered-stand clauses 0 clauses (λ i x e. ap (slice_get clauses) (let f : 0 + i ≡ i = omega arith in f) ∙ e)))

pub others-below : (n k m : ℕ) (ns : List ℕ) → n + k ≤ m → AllByRecursion (λ (i : ℕ). i < m) (others_from n k ns)
others-below n k m ns l = all-filtered (λ (i : ℕ). i < m) (λ i. not (list_any (nat_eq i) ns)) (numbers_from n k) (numbers-below n k m l)

-- the numbers of all clauses
pub all-numbers : (n : ℕ) (cs : List FoClause) → numbers_from n (length cs) ≡ map (λ x. x.0) (numbered_from n cs)
all-numbers n [] = refl
all-numbers n (c ∷ cs) = ap (λ (z : List ℕ). n ∷ z) (all-numbers (suc n) cs)

-- numbers from one on, one more
numbers-push : (n k : ℕ) → numbers_from n (suc k) ≡ numbers_from n k ++ (n + k) ∷ []
numbers-push n zero = ap (λ (x : ℕ). x ∷ []) (let e : n ≡ n + 0 = omega arith in e)
numbers-push n (suc k) = ap (λ (z : List ℕ). n ∷ z) (numbers-push (suc n) k ∙ ap (λ (x : ℕ). numbers_from (suc n) k ++ x ∷ []) (let e : suc n + k ≡ n + suc k = omega arith in e))

pub numbers-next : (from number : ℕ) (old cur new : List ℕ) → from ≤ number → cur ≡ old ++ numbers_from from (number - from) → new ≡ cur ++ number ∷ [] → new ≡ old ++ numbers_from from (number + 1 - from)
numbers-next from number old cur new l e f =
    let k : ℕ = number - from in
    f ∙ ap (λ (x : List ℕ). x ++ number ∷ []) e ∙ append_assoc old (numbers_from from k) (number ∷ [])
    ∙ ap (λ (m : ℕ). old ++ (numbers_from from k ++ m ∷ [])) (let a : number ≡ from + (number - from) = omega arith in a)
    ∙ ap (λ (x : List ℕ). old ++ x) (sym (numbers-push from k)) ∙ ap (λ (m : ℕ). old ++ numbers_from from m) (let a : suc (number - from) ≡ number + 1 - from = omega arith in a)

pub without-same : (g n : ℕ) → n ≡ g → without g (n ∷ []) ≡ []
without-same g n e = ap (λ b. cond (not b) (n ∷ []) []) (ap (nat_eq n) (sym e) ∙ same-number n)

pub without-other : (g n : ℕ) → (n ≡ g → ⊥) → without g (n ∷ []) ≡ n ∷ []
without-other g n f = ap (λ b. cond (not b) (n ∷ []) []) (other-number n g f)

-- a number that is passed over, and one that is taken
pub pass-over : (n : ℕ) (ns others list : List ℕ) → ns ≡ n ∷ others → (k : ℕ) → list ++ others_from (suc n) k others ≡ list ++ others_from n (suc k) ns
pass-over n ns others list e k = ap (λ (x : List ℕ). list ++ x) (sym (ap (others_from n (suc k)) e ∙ others-passed n k others))

pub pass-taken : (n : ℕ) (ns list new : List ℕ) → IsRisingFrom n ns → ((ms : List ℕ) → ns ≡ n ∷ ms → ⊥) → new ≡ list ++ n ∷ [] → (k : ℕ) → new ++ others_from (suc n) k ns ≡ list ++ others_from n (suc k) ns
pass-taken n ns list new h f e k =
    ap (λ (x : List ℕ). x ++ others_from (suc n) k ns) e ∙ append_assoc list (n ∷ []) (others_from (suc n) k ns) ∙ ap (λ (x : List ℕ). list ++ x) (sym (others-taken n k ns (rising-past n ns h f)))

pub partners-next : (number count : ℕ) (list new rest others whole : List ℕ) → number < count → list ++ others_from number (count - number) rest ≡ whole →
    ((k : ℕ) → new ++ others_from (suc number) k others ≡ list ++ others_from number (suc k) rest) → IsRisingFrom (suc number) others →
    (new ++ others_from (number + 1) (count - (number + 1)) others ≡ whole) × IsRisingFrom (number + 1) others
partners-next number count list new rest others whole l e f h =
    let one : number + 1 ≡ suc number = omega arith in
    let k : suc (count - (number + 1)) ≡ count - number = omega arith in
    (ap (λ n. new ++ others_from n (count - (number + 1)) others) one ∙ f (count - (number + 1)) ∙ ap (λ n. list ++ others_from number n rest) k ∙ e, subst (λ n. IsRisingFrom n others) (sym one) h)

-- the lighter one of two
module _ (clauses : List FoClause) (ns : List ℕ) (rising : IsRisingFrom 0 ns) where
  pub lightest-step : (best other chosen : Weighed) (place n : ℕ) (c : FoClause) → IsLightest clauses ns best.place place best.weight → other.place ≡ place → other.weight ≡ clause_weight c → slice_get ns place ≡ Some n → slice_get clauses n ≡ Some c →
      (other.weight < best.weight → chosen ≡ other) → (best.weight ≤ other.weight → chosen ≡ best) → IsLightest clauses ns chosen.place (place + 1) chosen.weight
  lightest-step best other chosen place n c h p w e f second first = elim (cases_lt other.weight best.weight) [
    | inl l ↦ (let g = second l in subst (λ (x : Weighed). IsLightest clauses ns x.place (place + 1) x.weight) (sym g) (subst (λ (m : ℕ). IsLightest clauses ns m (place + 1) other.weight) (sym p) (lightest-next clauses ns rising best.place place best.weight n other.weight c h e f w l)))
    | inr l ↦ (let g = first (let a : best.weight ≤ other.weight = omega arith in a) in subst (λ (x : Weighed). IsLightest clauses ns x.place (place + 1) x.weight) (sym g) (lightest-passed clauses ns rising best.place place best.weight n c h e f (let a : best.weight ≤ clause_weight c = omega arith in a)))
  ]
