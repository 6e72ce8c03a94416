-- Passive and active clauses in a turn.
use Rattle.std.proofs.Common.{ℕ, zero, suc, ◌≡◌, ◌∙◌, ◌+◌, ◌<◌, ◌≤◌, Bool, true, false, List, [], ◌∷◌, ◌++◌, length, slice_get, Some, refl, sym, ap, ap₂, subst, eq-eqb, ne_eqb, ◌||◌, ◌⊎◌, inl, inr, arith}
use Rattle.std.specs.Prelude.{nat_eq, IsPermutation}
use Rattle.std.specs.List.{All}
use Rattle.std.proofs.lemmas.List.Sorted.{All-permutation}
use Rattle.std.proofs.lemmas.List.{append_assoc, length-append}
use Rattle.std.proofs.lemmas.Bool.Decides.{nat_tests}
use Rattle.leo_clause.specs.Trees.{ClauseTree}
use Rattle.leo_passive.specs.Entries.{Entry, AreBelow, without, has_number}
use Rattle.leo_turn.specs.Growth.{AreNext}
use Rattle.leo_turn.specs.Searches.{AreAllBelow, AreShared, HaveWeights, numbers_of, passive_weight, times}
use Rattle.leo_turn.specs.Turns.{entries}

-- the entries of clauses that came are those of their numbers and weights
get-front-last : (front : List ClauseTree) (k : ClauseTree) (ks : List ClauseTree) → slice_get (front ++ k ∷ ks) (length front) ≡ Some k
get-front-last [] k ks = refl
get-front-last (j ∷ front) k ks = get-front-last front k ks

pub entries-came : (front ks : List ClauseTree) (es : List Entry) → AreNext (length front) es → length es ≡ length ks → HaveWeights (front ++ ks) es → es ≡ entries (length front) ks
entries-came front [] [] next many h = refl
entries-came front [] (e ∷ es) next many h = absurd cc
entries-came front (k ∷ ks) [] next many h = absurd cc
entries-came front (k ∷ ks) (e ∷ es) next many h =
    let count : suc (length front) ≡ length (front ++ k ∷ []) = (let l = length-append front (k ∷ []) in omega (arith, l)) in
    let clauses : front ++ k ∷ ks ≡ (front ++ k ∷ []) ++ ks = sym (append_assoc front (k ∷ []) ks) in
    let as_many : length es ≡ length ks = cc in
    let stands : slice_get (front ++ k ∷ ks) e.number ≡ Some k = subst (λ n. slice_get (front ++ k ∷ ks) n ≡ Some k) (sym next.0) (get-front-last front k ks) in
    let rest : es ≡ entries (length (front ++ k ∷ [])) ks = entries-came (front ++ k ∷ []) ks es (subst (λ n. AreNext n es) count next.1) as_many (subst (λ (cs : List ClauseTree). HaveWeights cs es) clauses h.1) in
    let first : e ≡ record { number = length front; weight = passive_weight k } = (let w = h.0 k stands in let n = next.0 in ap₂ (λ m v. record { number = m; weight = v }) n w) in
    ap₂ (λ (d : Entry) (ds : List Entry). d ∷ ds) first (rest ∙ ap (λ n. entries n ks) (sym count))

pub weights-back : (clauses : List ClauseTree) (es fs : List Entry) → HaveWeights clauses (es ++ fs) → HaveWeights clauses fs
weights-back clauses [] fs h = h
weights-back clauses (e ∷ es) fs h = weights-back clauses es fs h.1

-- a number among the entries
has-added : (n : ℕ) (es fs : List Entry) → has_number n es ≡ true → has_number n (es ++ fs) ≡ true
has-added n [] fs h = absurd cc
has-added n (e ∷ es) fs h = by (nat_eq n e.number) h (has-added n es fs)
  where
    by : (b : Bool) → (b || has_number n es) ≡ true → (has_number n es ≡ true → has_number n (es ++ fs) ≡ true) → (b || has_number n (es ++ fs)) ≡ true
    by true k rest = refl
    by false k rest = rest k

pub has-front : (n : ℕ) (es fs : List Entry) → has_number n es ≡ true → has_number n (es ++ fs) ≡ true
has-front n es fs h = has-added n es fs h

pub below-has : (count n : ℕ) (es : List Entry) → AreBelow count es → has_number n es ≡ true → n < count
below-has count n [] b h = absurd cc
below-has count n (e ∷ es) b h = by (nat_eq n e.number) refl h (below-has count n es b.1)
  where
    by : (t : Bool) → nat_eq n e.number ≡ t → (t || has_number n es) ≡ true → (has_number n es ≡ true → n < count) → n < count
    by true q k rest = (let l = b.0 in grind (arith, nat_tests))
    by false q k rest = rest k

-- how often numbers stand there
times-has : (n : ℕ) (es : List Entry) → has_number n es ≡ true → 1 ≤ times n (numbers_of es)
times-has n [] h = absurd cc
times-has n (e ∷ es) h = by (nat_eq n e.number) refl h (times-has n es)
  where
    by : (t : Bool) → nat_eq n e.number ≡ t → (t || has_number n es) ≡ true → (has_number n es ≡ true → 1 ≤ times n (numbers_of es)) → 1 ≤ times n (numbers_of (e ∷ es))
    by true q k rest = rw q (omega arith)
    by false q k rest = rw q (rest k)

times-last-same : (n : ℕ) (ns : List ℕ) → times n (ns ++ n ∷ []) ≡ suc (times n ns)
times-last-same n [] = rw (eq-eqb n n refl) refl
times-last-same n (m ∷ ns) = by (nat_eq n m) refl (times-last-same n ns)
  where
    by : (t : Bool) → nat_eq n m ≡ t → times n (ns ++ n ∷ []) ≡ suc (times n ns) → times n ((m ∷ ns) ++ n ∷ []) ≡ suc (times n (m ∷ ns))
    by true q rest = rw (q, rest) refl
    by false q rest = rw (q, rest) refl

times-last-other : (n m : ℕ) (ns : List ℕ) → nat_eq n m ≡ false → times n (ns ++ m ∷ []) ≡ times n ns
times-last-other n m [] q = rw q refl
times-last-other n m (k ∷ ns) q = by (nat_eq n k) refl (times-last-other n m ns q)
  where
    by : (t : Bool) → nat_eq n k ≡ t → times n (ns ++ m ∷ []) ≡ times n ns → times n ((k ∷ ns) ++ m ∷ []) ≡ times n (k ∷ ns)
    by true e rest = rw (e, rest) refl
    by false e rest = rw (e, rest) refl

-- without a number
without-keeps : (n : ℕ) (e : Entry) (es : List Entry) → nat_eq n e.number ≡ false → without n (e ∷ es) ≡ e ∷ without n es
without-keeps n e es q = rw q refl

without-drops : (n : ℕ) (e : Entry) (es : List Entry) → nat_eq n e.number ≡ true → without n (e ∷ es) ≡ without n es
without-drops n e es q = rw q refl

times-without-same : (n : ℕ) (es : List Entry) → times n (numbers_of (without n es)) ≡ 0
times-without-same n [] = refl
times-without-same n (e ∷ es) = by (nat_eq n e.number) refl (times-without-same n es)
  where
    by : (t : Bool) → nat_eq n e.number ≡ t → times n (numbers_of (without n es)) ≡ 0 → times n (numbers_of (without n (e ∷ es))) ≡ 0
    by true q rest = ap (λ (ds : List Entry). times n (numbers_of ds)) (without-drops n e es q) ∙ rest
    by false q rest = ap (λ (ds : List Entry). times n (numbers_of ds)) (without-keeps n e es q) ∙ rw q rest

times-without-other : (m n : ℕ) (es : List Entry) → nat_eq m n ≡ false → times m (numbers_of (without n es)) ≡ times m (numbers_of es)
times-without-other m n [] o = refl
times-without-other m n (e ∷ es) o = by (nat_eq n e.number) refl (nat_eq m e.number) refl (times-without-other m n es o)
  where
    by : (t : Bool) → nat_eq n e.number ≡ t → (u : Bool) → nat_eq m e.number ≡ u → times m (numbers_of (without n es)) ≡ times m (numbers_of es) → times m (numbers_of (without n (e ∷ es))) ≡ times m (numbers_of (e ∷ es))
    by true q true r rest = absurd (let f : ⊥ = grind (arith, nat_tests) in f)
    by true q false r rest = ap (λ (ds : List Entry). times m (numbers_of ds)) (without-drops n e es q) ∙ rest ∙ rw r refl
    by false q true r rest = ap (λ (ds : List Entry). times m (numbers_of ds)) (without-keeps n e es q) ∙ rw r (ap suc rest)
    by false q false r rest = ap (λ (ds : List Entry). times m (numbers_of ds)) (without-keeps n e es q) ∙ rw r rest

below-without : (count n : ℕ) (es : List Entry) → AreBelow count es → AreBelow count (without n es)
below-without count n [] h = tt
below-without count n (e ∷ es) h = by (nat_eq n e.number) refl (below-without count n es h.1)
  where
    by : (t : Bool) → nat_eq n e.number ≡ t → AreBelow count (without n es) → AreBelow count (without n (e ∷ es))
    by true q rest = subst (AreBelow count) (sym (without-drops n e es q)) rest
    by false q rest = subst (AreBelow count) (sym (without-keeps n e es q)) (h.0, rest)

pub weights-without : (clauses : List ClauseTree) (n : ℕ) (es : List Entry) → HaveWeights clauses es → HaveWeights clauses (without n es)
weights-without clauses n [] h = tt
weights-without clauses n (e ∷ es) h = by (nat_eq n e.number) refl (weights-without clauses n es h.1)
  where
    by : (t : Bool) → nat_eq n e.number ≡ t → HaveWeights clauses (without n es) → HaveWeights clauses (without n (e ∷ es))
    by true q rest = subst (HaveWeights clauses) (sym (without-drops n e es q)) rest
    by false q rest = subst (HaveWeights clauses) (sym (without-keeps n e es q)) (h.0, rest)

below-last : (count n : ℕ) (ns : List ℕ) → AreAllBelow count ns → n < count → AreAllBelow count (ns ++ n ∷ [])
below-last count n [] h l = (l, tt)
below-last count n (m ∷ ns) h l = (h.0, below-last count n ns h.1 l)

-- the given clause comes from the passive ones to the active ones
module _ (count given : ℕ) (active : List ℕ) (es : List Entry) (h : AreShared count active es) (has : has_number given es ≡ true) where
  given-below : given < count
  given-below = below-has count given es h.passive_below has

  not-active : times given active ≡ 0
  not-active = (let o = h.once given given-below in let p = times-has given es has in omega (arith, o, p))

  pub shared-given : AreShared count (active ++ given ∷ []) (without given es)
  shared-given = record {
    active_below = below-last count given active h.active_below given-below;
    passive_below = below-without count given es h.passive_below;
    once = λ n l. by n (nat_eq n given) refl l;
  }
    where
      by : (n : ℕ) (t : Bool) → nat_eq n given ≡ t → n < count → times n (active ++ given ∷ []) + times n (numbers_of (without given es)) ≡ 1
      by n true q l =
          let e : n ≡ given = grind (arith, nat_tests) in
          rw e (let a = times-last-same given active in let b = times-without-same given es in let z = not-active in omega (arith, a, b, z))
      by n false q l = (let a = times-last-other n given active q in let b = times-without-other n given es q in let o = h.once n l in omega (arith, a, b, o))

below-later : (m n : ℕ) (ns : List ℕ) → AreAllBelow m ns → m ≤ n → AreAllBelow n ns
below-later m n [] h l = tt
below-later m n (k ∷ ns) h l = let b = h.0 in (omega arith, below-later m n ns h.1 l)

times-high : (n : ℕ) (ns : List ℕ) → AreAllBelow n ns → times n ns ≡ 0
times-high n [] h = refl
times-high n (m ∷ ns) h = let l = h.0 in let t : nat_eq n m ≡ false = ne_eqb n m (λ e. omega (arith, e)) in rw t (times-high n ns h.1)

at_most_one : (n count : ℕ) (active : List ℕ) (es : List Entry) → AreShared count active es → (n < count) ⊎ (count ≤ n) → times n active ≤ 1
at_most_one n count active es h (inl l) = (let o = h.once n l in omega (arith, o))
at_most_one n count active es h (inr l) = (let z = times-high n active (below-later count n active h.active_below l) in omega (arith, z))

-- no number stands twice among the partners
pub once-given : (count given : ℕ) (active : List ℕ) (es : List Entry) → AreShared count active es → has_number given es ≡ true → (n : ℕ) → times n (given ∷ active) ≤ 1
once-given count given active es h has n = by (nat_eq n given) refl
  where
    by : (t : Bool) → nat_eq n given ≡ t → times n (given ∷ active) ≤ 1
    by true q = (let e : n ≡ given = grind (arith, nat_tests) in let z = not-active count given active es h has in let f : times n (given ∷ active) ≡ suc (times n active) = rw q refl in let g : times n active ≡ 0 = rw e z in omega (arith, f, g))
    by false q = (let f : times n (given ∷ active) ≡ times n active = rw q refl in let o = at_most_one n count active es h (grind arith) in omega (arith, f, o))

below-all : (count : ℕ) (ns : List ℕ) → AreAllBelow count ns → All (λ n. n < count) ns
below-all count [] h k d l = absurd (let f : ⊥ = omega arith in f)
below-all count (n ∷ ns) h zero d l = h.0
below-all count (n ∷ ns) h (suc k) d l = below-all count ns h.1 k d (omega arith)

all-below : (count : ℕ) (ns : List ℕ) → All (λ n. n < count) ns → AreAllBelow count ns
all-below count [] h = tt
all-below count (n ∷ ns) h = (h 0 n (omega arith), all-below count ns (λ k d l. h (suc k) d (omega arith)))

pub partners-below : (count given : ℕ) (active ns : List ℕ) → given < count → AreAllBelow count active → IsPermutation (given ∷ active) ns → AreAllBelow count ns
partners-below count given active ns l h p = all-below count ns (All-permutation (λ n. n < count) (given ∷ active) ns p (below-all count (given ∷ active) (l, h)))
