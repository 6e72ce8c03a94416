-- Counting variables between places.
use Rattle.std.proofs.Common.{ℕ, zero, suc, ◌+◌, ◌-◌, ◌≡◌, ◌<◌, ◌≤◌, Bool, true, false, cond, List, [], ◌∷◌, ◌++◌, set, take, drop, replicate, Some, None, refl, sym, ◌∙◌, ap, arith, rules, ◌⊎◌, inl, inr}
use Rattle.std.specs.Prelude.{slice_get, slice_range, nat_eq, count_by}
use Rattle.std.proofs.lemmas.List.{drop-take}
use Rattle.std.proofs.Math.Seq.{take-add}
use Rattle.fo_terms.specs.declared.term.FoNode.{FoNode}
use Rattle.fo_terms.specs.declared.term.FoNode.TheVariants.{Var, Sym}
use Rattle.fo_terms.specs.Places.{term_at, IsFull, IsBehind}
use Rattle.fo_terms.proofs.Spans.{slice_range-term}
use Rattle.fo_kbo.specs.Occurrences.{occurrences, Covers}
use Rattle.fo_kbo.specs.Nodes.{is_node_of}
use Rattle.fo_kbo.specs.declared.tally.Tally.{Tally}
use Rattle.fo_kbo.specs.Outward.{AreSameBefore}
use Rattle.fo_kbo.specs.Tallies.{counted, occurs_between, AreCounts, IsTally, AreTallied}
use Rattle.fo_kbo.proofs.CountedNodes.{count_by-append, count_by-cons, occurrences-prefix}

equal_or_not : (m n : ℕ) → (m ≡ n) ⊎ (nat_eq m n ≡ false)
equal_or_not m n = search rules

not_equal : (v w : ℕ) → (v ≡ w → ⊥) → nat_eq v w ≡ false
not_equal v w h = elim (equal_or_not v w) [ inl e ↦ absurd (h e) | inr q ↦ q ]

same_number : (n : ℕ) → nat_eq n n ≡ false → ⊥
same_number n h = let e : nat_eq n n ≡ true = search rules in cc

other_number : (i j : ℕ) → nat_eq (suc j) (suc i) ≡ false → nat_eq j i ≡ false
other_number i j h = not_equal j i (λ e. same_number (suc i) (rw e at h))

drop-drop : {X : Type 0} (m n : ℕ) (xs : List X) → drop m (drop n xs) ≡ drop (n + m) xs
drop-drop m zero xs = let e : 0 + m ≡ m = omega arith in rw e refl
drop-drop zero (suc n) [] = let e : suc n + 0 ≡ suc n = omega arith in rw e refl
drop-drop (suc m) (suc n) [] = let e : suc n + suc m ≡ suc (n + suc m) = omega arith in rw e refl
drop-drop m (suc n) (x ∷ xs) = let e : suc n + m ≡ suc (n + m) = omega arith in rw e (drop-drop m n xs)

slice_range-split : (ns : List FoNode) (a b c : ℕ) → a ≤ b → b ≤ c → slice_range ns a c ≡ slice_range ns a b ++ slice_range ns b c
slice_range-split ns a b c l k =
    let sum : c - a ≡ (b - a) + (c - b) = omega arith in
    let there : a + (b - a) ≡ b = omega arith in
    ap (λ (n : ℕ). take n (drop a ns)) sum ∙ take-add (b - a) (c - b) (drop a ns) ∙ ap (λ (ms : List FoNode). take (b - a) (drop a ns) ++ take (c - b) ms) (drop-drop (b - a) a ns ∙ ap (λ (n : ℕ). drop n ns) there)

between-split : (v : ℕ) (ns : List FoNode) (a b c : ℕ) → a ≤ b → b ≤ c → occurs_between v ns a c ≡ occurs_between v ns a b + occurs_between v ns b c
between-split v ns a b c l k = ap (count_by (is_node_of v)) (slice_range-split ns a b c l k) ∙ count_by-append (is_node_of v) (slice_range ns a b) (slice_range ns b c)

one_node : (ns : List FoNode) (p : ℕ) (n : FoNode) → slice_get ns p ≡ Some n → take 1 (drop p ns) ≡ n ∷ []
one_node [] p n h = absurd cc
one_node (m ∷ ns) zero n h = let e : m ≡ n = cc in rw e refl
one_node (m ∷ ns) (suc p) n h = one_node ns p n h

between-one : (v : ℕ) (ns : List FoNode) (p : ℕ) (n : FoNode) → slice_get ns p ≡ Some n → occurs_between v ns p (p + 1) ≡ cond (is_node_of v n) 1 0
between-one v ns p n h =
    let width : p + 1 - p ≡ 1 = omega arith in
    let nodes : slice_range ns p (p + 1) ≡ n ∷ [] = ap (λ (w : ℕ). take w (drop p ns)) width ∙ one_node ns p n h in
    let counts : count_by (is_node_of v) (n ∷ []) ≡ cond (is_node_of v n) 1 0 + 0 = count_by-cons (is_node_of v) n [] in
    ap (count_by (is_node_of v)) nodes ∙ counts ∙ (omega arith)

-- one more node
between-next : (v : ℕ) (ns : List FoNode) (a p : ℕ) (n : FoNode) → a ≤ p → slice_get ns p ≡ Some n → occurs_between v ns a (p + 1) ≡ occurs_between v ns a p + cond (is_node_of v n) 1 0
between-next v ns a p n l h = let s = between-split v ns a p (p + 1) l (omega arith) in let o = between-one v ns p n h in omega arith

pub AreCounts-symbol : (ns : List FoNode) (a p f k : ℕ) (counts : List ℕ) → a ≤ p → slice_get ns p ≡ Some (Sym f k) → AreCounts ns a p counts → AreCounts ns a (p + 1) counts
AreCounts-symbol ns a p f k counts l h c = record {
  small = λ v w. (let n = between-next v ns a p (Sym f k) l h in let same : occurs_between v ns a (p + 1) ≡ occurs_between v ns a p = omega arith in rw same (c.small v w));
  large = λ v w. (let n = between-next v ns a p (Sym f k) l h in let z = c.large v w in omega arith);
}

set-other : (xs : List ℕ) (i j x : ℕ) → nat_eq j i ≡ false → slice_get (set xs i x) j ≡ slice_get xs j
set-other [] i j x h = refl
set-other (y ∷ ys) zero zero x h = absurd (same_number 0 h)
set-other (y ∷ ys) zero (suc j) x h = refl
set-other (y ∷ ys) (suc i) zero x h = refl
set-other (y ∷ ys) (suc i) (suc j) x h = set-other ys i j x (other_number i j h)

set-here : (xs : List ℕ) (i x n : ℕ) → slice_get xs i ≡ Some n → slice_get (set xs i x) i ≡ Some x
set-here [] i x n h = absurd cc
set-here (y ∷ ys) zero x n h = refl
set-here (y ∷ ys) (suc i) x n h = set-here ys i x n h

some_same : (m n : ℕ) → Some m ≡ Some n → m ≡ n
some_same m n e = cc

pub AreCounts-variable : (ns : List FoNode) (a p w n : ℕ) (counts : List ℕ) → a ≤ p → slice_get ns p ≡ Some (Var w) → slice_get counts w ≡ Some n → w < counted → AreCounts ns a p counts → AreCounts ns a (p + 1) (set counts w (n + 1))
AreCounts-variable ns a p w n counts l h e small c = record {
  small = λ v k. elim (equal_or_not v w) [
    | inl q ↦
        (let self : nat_eq w w ≡ true = search rules in
        let next : occurs_between w ns a (p + 1) ≡ occurs_between w ns a p + 1 = between-next w ns a p (Var w) l h ∙ ap (λ (b : Bool). occurs_between w ns a p + cond b 1 0) self in
        let before : n ≡ occurs_between w ns a p = some_same n (occurs_between w ns a p) (sym e ∙ c.small w small) in
        let now : n + 1 ≡ occurs_between w ns a (p + 1) = omega arith in
        rw q (set-here counts w (n + 1) n e ∙ ap Some now))
    | inr q ↦
        (let next : occurs_between v ns a (p + 1) ≡ occurs_between v ns a p + 0 = between-next v ns a p (Var w) l h ∙ ap (λ (b : Bool). occurs_between v ns a p + cond b 1 0) q in
        let now : occurs_between v ns a p ≡ occurs_between v ns a (p + 1) = omega arith in
        set-other counts w v (n + 1) q ∙ c.small v k ∙ ap Some now)
  ];
  large = λ v k.
      (let q : nat_eq v w ≡ false = not_equal v w (λ s. absurd (omega arith)) in
      let next : occurs_between v ns a (p + 1) ≡ occurs_between v ns a p + 0 = between-next v ns a p (Var w) l h ∙ ap (λ (b : Bool). occurs_between v ns a p + cond b 1 0) q in
      let z = c.large v k in
      omega arith);
}

take-none : {X : Type 0} (xs : List X) → take 0 xs ≡ []
take-none [] = refl
take-none (x ∷ xs) = refl

pub AreCounts-none : (ns : List FoNode) (at : ℕ) (counts : List ℕ) → ((v : ℕ) → v < counted → slice_get counts v ≡ Some 0) → AreCounts ns at at counts
AreCounts-none ns at counts z =
    let width : at - at ≡ 0 = omega arith in
    let nodes : slice_range ns at at ≡ [] = ap (λ (w : ℕ). take w (drop at ns)) width ∙ take-none (drop at ns) in
    record {
      small = λ v l. (let none : occurs_between v ns at at ≡ 0 = ap (count_by (is_node_of v)) nodes in rw none (z v l));
      large = λ v l. ap (count_by (is_node_of v)) nodes;
    }

pub slice_get-zeros : (n v : ℕ) → v < n → slice_get {X = ℕ} (replicate n 0) v ≡ Some 0
slice_get-zeros zero v h = absurd (omega arith)
slice_get-zeros (suc n) zero h = refl
slice_get-zeros (suc n) (suc v) h = slice_get-zeros n v (omega arith)

-- ---- what the counts of two terms say

front-same : (d : ℕ) (ns ms : List FoNode) → AreSameBefore ns ms d → take d ns ≡ take d ms
front-same zero ns ms h = take-none ns ∙ sym (take-none ms)
front-same (suc d) [] [] h = refl
front-same (suc d) [] (m ∷ ms) h = let e : None ≡ Some m = h 0 (omega arith) in absurd cc
front-same (suc d) (n ∷ ns) [] h = let e : Some n ≡ None = h 0 (omega arith) in absurd cc
front-same (suc d) (n ∷ ns) (m ∷ ms) h =
    let e : Some n ≡ Some m = h 0 (omega arith) in
    let same : n ≡ m = cc in
    rw (same, front-same d ns ms (λ i l. h (suc i) (omega arith))) refl

same-between : (v : ℕ) (ns ms : List FoNode) (a d : ℕ) → a ≤ d → AreSameBefore ns ms d → occurs_between v ns a d ≡ occurs_between v ms a d
same-between v ns ms a d l h =
    let there : a + (d - a) ≡ d = omega arith in
    let left : slice_range ns a d ≡ drop a (take d ns) = sym (drop-take a (d - a) ns) ∙ ap (λ (n : ℕ). drop a (take n ns)) there in
    let right : slice_range ms a d ≡ drop a (take d ms) = sym (drop-take a (d - a) ms) ∙ ap (λ (n : ℕ). drop a (take n ms)) there in
    ap (count_by (is_node_of v)) (left ∙ ap (drop a) (front-same d ns ms h) ∙ sym right)

occurrences-between : (v : ℕ) (ns : List FoNode) (a s e : ℕ) → IsFull ns → IsBehind ns a e → a ≤ s → s ≤ e → occurrences v (term_at ns a) ≡ occurs_between v ns a s + occurs_between v ns s e
occurrences-between v ns a s e f b l k = sym (occurrences-prefix v (term_at ns a)) ∙ ap (count_by (is_node_of v)) (sym (slice_range-term ns a e f b)) ∙ between-split v ns a s e l k

small_or_large : (v : ℕ) → (v < counted) ⊎ (counted ≤ v)
small_or_large v = grind arith

module _ (ns ms : List FoNode) (full : IsFull ns) (full' : IsFull ms) (at e d : ℕ) (left right : Tally) (t : AreTallied ns ms at e d left right) (left_small : left.small ≡ true) (right_small : right.small ≡ true) where
  first : AreCounts ns t.start e left.counts
  first = t.left_counts left_small

  second : AreCounts ms t.start d right.counts
  second = t.right_counts right_small

  pub covers-from : ((v x y : ℕ) → v < counted → slice_get left.counts v ≡ Some x → slice_get right.counts v ≡ Some y → y ≤ x) → Covers (term_at ns at) (term_at ms at)
  covers-from h v =
      let a = occurrences-between v ns at t.start e full t.left_behind t.before t.left_later in
      let b = occurrences-between v ms at t.start d full' t.right_behind t.before t.right_later in
      let s = same-between v ns ms at t.start t.before t.same in
      elim (small_or_large v) [
        | inl l ↦ (let c = h v (occurs_between v ns t.start e) (occurs_between v ms t.start d) l (first.small v l) (second.small v l) in omega arith)
        | inr l ↦ (let x = first.large v l in let y = second.large v l in omega arith)
      ]

  pub covers-refused : (v : ℕ) → v < counted → ((x y : ℕ) → slice_get left.counts v ≡ Some x → slice_get right.counts v ≡ Some y → x < y) → Covers (term_at ns at) (term_at ms at) → ⊥
  covers-refused v l h c =
      let a = occurrences-between v ns at t.start e full t.left_behind t.before t.left_later in
      let b = occurrences-between v ms at t.start d full' t.right_behind t.before t.right_later in
      let s = same-between v ns ms at t.start t.before t.same in
      let more = h (occurs_between v ns t.start e) (occurs_between v ms t.start d) (first.small v l) (second.small v l) in
      let less = c v in
      absurd (omega arith)

pub AreTallied-turned : (ns ms : List FoNode) (at e d : ℕ) (left right : Tally) → AreTallied ns ms at e d left right → AreTallied ms ns at d e right left
AreTallied-turned ns ms at e d left right t = record {
  start = t.start;
  before = t.before;
  left_later = t.right_later;
  right_later = t.left_later;
  same = (λ i l. sym (t.same i l));
  left_behind = t.right_behind;
  right_behind = t.left_behind;
  left_counts = t.right_counts;
  right_counts = t.left_counts;
}

pub AreTallied-start : (ns ms : List FoNode) (at e d : ℕ) (left right : Tally) → AreSameBefore ns ms at → IsBehind ns at e → IsBehind ms at d → IsTally ns at e left → IsTally ms at d right → AreTallied ns ms at e d left right
AreTallied-start ns ms at e d left right s b c l r =
    let x = b.later in
    let y = c.later in
    record {
      start = at;
      before = omega arith;
      left_later = omega arith;
      right_later = omega arith;
      same = s;
      left_behind = b;
      right_behind = c;
      left_counts = l;
      right_counts = r;
    }

pub AreTallied-around : (ns ms : List FoNode) (at e d here e' d' : ℕ) (left right left' right' : Tally) → AreTallied ns ms at e d left right → here ≤ at → e ≤ e' → d ≤ d' → IsBehind ns here e' → IsBehind ms here d'
    → ((a : ℕ) → a ≤ e → IsTally ns a e left → IsTally ns a e' left') → ((a : ℕ) → a ≤ d → IsTally ms a d right → IsTally ms a d' right') → AreTallied ns ms here e' d' left' right'
AreTallied-around ns ms at e d here e' d' left right left' right' t l k m b c x y =
    let before = t.before in
    let first = t.left_later in
    let second = t.right_later in
    record {
      start = t.start;
      before = omega arith;
      left_later = omega arith;
      right_later = omega arith;
      same = t.same;
      left_behind = b;
      right_behind = c;
      left_counts = x t.start t.left_later t.left_counts;
      right_counts = y t.start t.right_later t.right_counts;
    }
