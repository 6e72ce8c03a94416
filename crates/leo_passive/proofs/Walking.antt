-- The lightest along a list.
use Rattle.std.proofs.Common.{◌≡◌, ◌⊎◌, inl, inr, ℕ, zero, suc, ◌+◌, ◌*◌, ◌<◌, ◌≤◌, Bool, true, false, List, [], ◌∷◌, ◌++◌, append_assoc, Option, Some, None, map, length, refl, sym, ◌∙◌, subst, ap, arith}
use Rattle.std.specs.Prelude.{nat_le, slice_get}
use Rattle.std.specs.Option.{option_map}
use Rattle.std.proofs.lemmas.Option.{slice_get-map}
use Rattle.std.proofs.lemmas.List.{append-nil, length-append}
use Rattle.std.proofs.lemmas.Bool.Decides.{nat_tests}
use Rattle.leo_passive.specs.Entries.{Entry, GoesBefore, IsLightest}
use Rattle.leo_passive.specs.Table.{weight_slot, AreAbove, IsRising, AreKept, half, slot_weight, lighter_of}
use Rattle.leo_passive.proofs.Numbers
use Rattle.leo_passive.proofs.Looking.{In, in-from, in-to, above-in}

-- the slot is of the lightest of the entries; none where there is none
abbrev pub BestOf : List Entry → Option ℕ → Type 0
BestOf es None = es ≡ []
BestOf es (Some s) = (e : Entry) × In e es × (s ≡ weight_slot e) × ((d : Entry) → In d es → GoesBefore e d)

pub best-lightest : (es : List Entry) (o : Option ℕ) → BestOf es o → IsLightest es (option_map half o)
best-lightest es None h = h
best-lightest es (Some s) h = (h.0, in-to es h.0 h.1, (rw h.2 (sym (Numbers.half_odd h.0.number))), λ d c. h.3 d (in-from es d c))

in-append : (xs ys : List Entry) (d : Entry) → In d (xs ++ ys) → In d xs ⊎ In d ys
in-append [] ys d h = inr h
in-append (x ∷ xs) ys d (inl k) = inl (inl k)
in-append (x ∷ xs) ys d (inr r) = elim (in-append xs ys d r) [ inl a ↦ inl (inr a) | inr b ↦ inr b ]

pub in-left : (xs ys : List Entry) (d : Entry) → In d xs → In d (xs ++ ys)
in-left [] ys d h = absurd h
in-left (x ∷ xs) ys d (inl k) = inl k
in-left (x ∷ xs) ys d (inr r) = inr (in-left xs ys d r)

pub in-right : (xs ys : List Entry) (d : Entry) → In d ys → In d (xs ++ ys)
in-right [] ys d h = h
in-right (x ∷ xs) ys d h = inr (in-right xs ys d h)

-- entries before another have smaller numbers
before-number : (xs : List Entry) (e : Entry) (ys : List Entry) → IsRising (xs ++ e ∷ ys) → (d : Entry) → In d xs → d.number < e.number
before-number [] e ys h d i = absurd i
before-number (x ∷ xs) e ys h d (inl k) = subst (λ (z : Entry). z.number < e.number) (sym k) (above-in x.number (xs ++ e ∷ ys) h.0 e (in-right xs (e ∷ ys) e (inl refl)))
before-number (x ∷ xs) e ys h d (inr r) = before-number xs e ys h.1 d r

pub kept-weight : (slots : ℕ) (weights : List ℕ) (es : List Entry) → AreKept slots weights es → (e : Entry) → In e es →
    (2 * e.number + 1 < slots) × (slot_weight weights (weight_slot e) ≡ e.weight)
kept-weight slots weights [] h e i = absurd i
kept-weight slots weights (d ∷ es) h e (inl k) = subst (λ (x : Entry). (2 * x.number + 1 < slots) × (slot_weight weights (weight_slot x) ≡ x.weight)) (sym k) (h.0, (rw (Numbers.half_odd d.number) h.1))
kept-weight slots weights (d ∷ es) h e (inr r) = kept-weight slots weights es h.2 e r

-- one more entry
best-snoc : (slots : ℕ) (weights : List ℕ) (xs : List Entry) (e : Entry) (ys : List Entry) → IsRising (xs ++ e ∷ ys) → AreKept slots weights (xs ++ e ∷ ys) →
    (o : Option ℕ) → BestOf xs o → BestOf (xs ++ e ∷ []) (Some (lighter_of weights o (weight_slot e)))
best-snoc slots weights xs e ys rising kept None h = (
  e,
  in-right xs (e ∷ []) e (inl refl),
  refl,
  λ d i. let j : In d (e ∷ []) = subst (λ (zs : List Entry). In d (zs ++ e ∷ [])) h i in
      elim j [ inl k ↦ inr (ap (λ (x : Entry). x.weight) (sym k), (let n : e.number ≡ d.number = ap (λ (x : Entry). x.number) (sym k) in omega (arith, n))) | inr r ↦ absurd r ],
)
best-snoc slots weights xs e ys rising kept (Some s) h = go (nat_le (slot_weight weights s) (slot_weight weights (weight_slot e))) refl where
  own : slot_weight weights (weight_slot e) ≡ e.weight
  own = (kept-weight slots weights (xs ++ e ∷ ys) kept e (in-right xs (e ∷ ys) e (inl refl))).1

  best : slot_weight weights s ≡ h.0.weight
  best = ap (slot_weight weights) h.2 ∙ (kept-weight slots weights (xs ++ e ∷ ys) kept h.0 (in-left xs (e ∷ ys) h.0 h.1)).1

  less : h.0.number < e.number
  less = before-number xs e ys rising h.0 h.1

  split : (x y : ℕ) → x ≤ y → (x < y) ⊎ (x ≡ y)
  split x y k = grind (arith, k)

  go : (b : Bool) → nat_le (slot_weight weights s) (slot_weight weights (weight_slot e)) ≡ b → BestOf (xs ++ e ∷ []) (Some (lighter_of weights (Some s) (weight_slot e)))
  go true k =
      let le : h.0.weight ≤ e.weight = (let a : nat_le h.0.weight e.weight ≡ true = (rw (← best, ← own) k) in grind (arith, nat_tests, a)) in
      rw k (
        h.0,
        in-left xs (e ∷ []) h.0 h.1,
        h.2,
        λ d i. elim (in-append xs (e ∷ []) d i) [
          | inl a ↦ h.3 d a
          | inr a ↦ (elim a [
            | inl q ↦ subst (λ (x : Entry). GoesBefore h.0 x) (sym q) (elim (split h.0.weight e.weight le) [ inl w ↦ inl w | inr w ↦ inr (w, omega (arith, less)) ])
            | inr r ↦ absurd r
          ])
        ],
      )
  go false k =
      let lt : e.weight < h.0.weight = (let a : nat_le h.0.weight e.weight ≡ false = (rw (← best, ← own) k) in grind (arith, nat_tests, a)) in
      rw k (
        e,
        in-right xs (e ∷ []) e (inl refl),
        refl,
        λ d i. elim (in-append xs (e ∷ []) d i) [
          | inl a ↦ (elim (h.3 d a) [
            | inl w ↦ inl (omega (arith, w, lt))
            | inr w ↦ (let same = w.0 in inl (omega (arith, same, lt)))
          ])
          | inr a ↦ (elim a [
            | inl q ↦ inr (ap (λ (x : Entry). x.weight) (sym q), (let n : e.number ≡ d.number = ap (λ (x : Entry). x.number) (sym q) in omega (arith, n)))
            | inr r ↦ absurd r
          ])
        ],
      )

-- the walk stands before entry number i, at the slot `here`, and has the lightest of those before
pub record Walks (es : List Entry) (best here : Option ℕ) (i : ℕ) : Type 0 where
  pub seen : List Entry
  pub left : List Entry
  pub parts : es ≡ seen ++ left
  pub count : length seen ≡ i
  pub here_is : here ≡ option_map weight_slot (slice_get left 0)
  pub lightest : BestOf seen best

-- the slot that stands behind some entries
at-seam : (xs ys : List Entry) (k j : ℕ) → j ≡ length xs + k → slice_get (map weight_slot (xs ++ ys)) j ≡ option_map weight_slot (slice_get ys k)
at-seam [] ys k j e = let same : j ≡ k = omega (arith, e) in subst (λ (n : ℕ). slice_get (map weight_slot ys) j ≡ option_map weight_slot (slice_get ys n)) same (slice_get-map weight_slot ys j)
at-seam (x ∷ xs) ys k zero e = (let f : ⊥ = omega (arith, e) in absurd f)
at-seam (x ∷ xs) ys k (suc j) e = at-seam xs ys k j (omega (arith, e))

pub start : (es : List Entry) (here : Option ℕ) → here ≡ slice_get (map weight_slot es) 0 → Walks es None here 0
start es here e = record { seen = []; left = es; parts = refl; count = refl; here_is = e ∙ slice_get-map weight_slot es 0; lightest = refl }

-- the slot at which the walk stands
pub stands : (es : List Entry) (best here : Option ℕ) (i s : ℕ) → Walks es best here i → here ≡ Some s → slice_get (map weight_slot es) i ≡ Some s
stands es best here i s w e =
    let k : i ≡ length w.seen + 0 = (let c = w.count in omega (arith, c)) in
    subst (λ (ds : List Entry). slice_get (map weight_slot ds) i ≡ Some s) (sym w.parts) (at-seam w.seen w.left 0 i k ∙ sym w.here_is ∙ e)

-- one step of the walk
pub step : (slots : ℕ) (weights : List ℕ) (es : List Entry) → IsRising es → AreKept slots weights es → (best : Option ℕ) (i s : ℕ) (next : Option ℕ) →
    Walks es best (Some s) i → next ≡ slice_get (map weight_slot es) (i + 1) → Walks es (Some (lighter_of weights best s)) next (i + 1)
step slots weights es rising kept best i s next w n = go w.left w.parts w.here_is where
  go : (left : List Entry) → es ≡ w.seen ++ left → Some s ≡ option_map weight_slot (slice_get left 0) → Walks es (Some (lighter_of weights best s)) next (i + 1)
  go [] p h = (let f : ⊥ = cc in absurd f)
  go (e ∷ left) p h =
      let slot : s ≡ weight_slot e = cc in
      let r : IsRising (w.seen ++ e ∷ left) = subst IsRising p rising in
      let k : AreKept slots weights (w.seen ++ e ∷ left) = subst (AreKept slots weights) p kept in
      let joined : (w.seen ++ e ∷ []) ++ left ≡ w.seen ++ e ∷ left = append_assoc w.seen (e ∷ []) left in
      let many : length (w.seen ++ e ∷ []) ≡ i + 1 = length-append w.seen (e ∷ []) ∙ ap (λ (x : ℕ). x + 1) w.count in
      record {
        seen = w.seen ++ e ∷ [];
        left = left;
        parts = p ∙ sym joined;
        count = many;
        here_is = n ∙ subst (λ (ds : List Entry). slice_get (map weight_slot ds) (i + 1) ≡ option_map weight_slot (slice_get left 0)) (joined ∙ sym p)
            (at-seam (w.seen ++ e ∷ []) left 0 (i + 1) (omega (arith, many)));
        lightest = subst (λ (x : ℕ). BestOf (w.seen ++ e ∷ []) (Some (lighter_of weights best x))) (sym slot) (best-snoc slots weights w.seen e left r k best w.lightest);
      }

-- the walk at its end
pub ended : (es : List Entry) (best : Option ℕ) (i : ℕ) → Walks es best None i → BestOf es best
ended es best i w = go w.left w.parts w.here_is where
  go : (left : List Entry) → es ≡ w.seen ++ left → None ≡ option_map weight_slot (slice_get left 0) → BestOf es best
  go [] p h = subst (λ (ds : List Entry). BestOf ds best) (sym (p ∙ append-nil w.seen)) w.lightest
  go (e ∷ left) p h = (let f : ⊥ = cc in absurd f)

-- rising numbers below a bound are few
pub few : (m n : ℕ) (es : List Entry) → AreAbove m es → IsRising es → ((d : Entry) → In d es → d.number < n) → length es + m < n ⊎ (es ≡ [])
few m n [] a r b = inr refl
few m n (e ∷ es) a r b = elim (few e.number n es r.0 r.1 (λ d i. b d (inr i))) [
  | inl k ↦ inl (let x = a.0 in omega (arith, k, x))
  | inr k ↦ inl (let x = a.0 in let y = b e (inl refl) in let z : length es ≡ 0 = ap length k in omega (arith, x, y, z))
]
