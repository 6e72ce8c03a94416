-- The oldest and the lightest.
use Rattle.std.proofs.Common.{◌≡◌, ◌⊎◌, inl, inr, ℕ, zero, suc, ◌<◌, ◌≤◌, Bool, true, false, List, [], ◌∷◌, Some, map, length, refl, sym, subst, ap, eq-eqb, arith}
use Rattle.std.specs.Prelude.{nat_eq, nat_le, filter, slice_get, slice_index_or}
use Rattle.std.specs.Option.{option_map}
use Rattle.std.specs.List.{Contains}
use Rattle.std.proofs.lemmas.Bool.{eqb-true}
use Rattle.std.proofs.lemmas.Bool.Decides.{nat_tests}
use Rattle.leo_passive.specs.Entries.{Entry, IsOldest, GoesBefore, IsLightest}
use Rattle.leo_passive.specs.Table.{age_slot, list_of_weight, of_list, AreAbove, IsRising, half}
use Rattle.leo_passive.proofs.Numbers
use Rattle.leo_passive.proofs.Filters

-- the entry is in the list
abbrev pub In : Entry → List Entry → Type 0
In e [] = ⊥
In e (d ∷ ds) = (e ≡ d) ⊎ In e ds

pub in-from : (es : List Entry) (e : Entry) → Contains es e → In e es
in-from [] e c = (let b = c.1 in (let f : ⊥ = omega (arith, b) in f))
in-from (d ∷ ds) e c = go c.0 c.1 c.2 (λ k b f. in-from ds e (k, b, f)) where
  go : (k : ℕ) → k < length (d ∷ ds) → slice_index_or (d ∷ ds) k e ≡ e → ((j : ℕ) → j < length ds → slice_index_or ds j e ≡ e → In e ds) → In e (d ∷ ds)
  go zero b f r = inl (sym f)
  go (suc k) b f r = inr (r k (omega (arith, b)) f)

pub in-to : (es : List Entry) (e : Entry) → In e es → Contains es e
in-to [] e h = absurd h
in-to (d ∷ ds) e (inl k) = (0, omega arith, sym k)
in-to (d ∷ ds) e (inr r) = let c = in-to ds e r in let b = c.1 in (suc c.0, omega (arith, b), c.2)

-- entries behind the first have larger numbers
pub above-in : (n : ℕ) (es : List Entry) → AreAbove n es → (d : Entry) → In d es → n < d.number
above-in n [] h d i = absurd i
above-in n (e ∷ es) h d (inl k) = subst (λ (x : Entry). n < x.number) (sym k) h.0
above-in n (e ∷ es) h d (inr r) = above-in n es h.1 d r

first-least : (e : Entry) (es : List Entry) → IsRising (e ∷ es) → (d : Entry) → In d (e ∷ es) → e.number ≤ d.number
first-least e es h d (inl k) = subst (λ (x : Entry). e.number ≤ x.number) (sym k) (omega arith)
first-least e es h d (inr r) = let b = above-in e.number es h.0 d r in omega (arith, b)

-- the first by age is the oldest
pub oldest : (es : List Entry) → IsRising es → IsOldest es (option_map half (slice_get (map age_slot es) 0))
oldest [] h = refl
oldest (e ∷ es) h = (rw (Numbers.half e.number, eq-eqb e.number e.number refl) refl, λ d c. rw (Numbers.half e.number) (first-least e es h d (in-from (e ∷ es) d c)))

-- membership in a filter
pub in-filter : (test : Entry → Bool) (es : List Entry) (d : Entry) → In d es → test d ≡ true → In d (filter test es)
in-filter test [] d i t = absurd i
in-filter test (e ∷ es) d (inl k) t = let u : test e ≡ true = subst (λ (x : Entry). test x ≡ true) k t in rw u (inl k)
in-filter test (e ∷ es) d (inr r) t = go (test e) refl (in-filter test es d r t) where
  go : (b : Bool) → test e ≡ b → In d (filter test es) → In d (filter test (e ∷ es))
  go true k s = rw k (inr s)
  go false k s = rw k s

pub of-filter : (test : Entry → Bool) (es : List Entry) (d : Entry) → In d (filter test es) → In d es × (test d ≡ true)
of-filter test [] d h = absurd h
of-filter test (e ∷ es) d h = go (test e) refl (of-filter test es d) where
  go : (b : Bool) → test e ≡ b → (In d (filter test es) → In d es × (test d ≡ true)) → In d (e ∷ es) × (test d ≡ true)
  go true k r = let i : In d (e ∷ filter test es) = rw k at h in elim i [
    | inl s ↦ (inl s, subst (λ (x : Entry). test x ≡ true) (sym s) k)
    | inr s ↦ (let q = r s in (inr q.0, q.1))
  ]
  go false k r = let i : In d (filter test es) = rw k at h in let q = r i in (inr q.0, q.1)

-- a smaller list is for lighter entries
lighter-list : (v w : ℕ) → list_of_weight v < 514 → list_of_weight v ≤ list_of_weight w → v ≤ w
lighter-list v w b c = go (nat_le v 512) (nat_le w 512) refl refl where
  go : (x y : Bool) → nat_le v 512 ≡ x → nat_le w 512 ≡ y → v ≤ w
  go true true e f = let p : suc v ≤ suc w = (rw (e, f) at c) in omega (arith, p)
  go true false e f = let p : v ≤ 512 = grind (arith, nat_tests, e) in let q : 512 < w = grind (arith, nat_tests, f) in omega (arith, p, q)
  go false y e f = let p : 514 < 514 = (rw e at b) in (let g : ⊥ = omega (arith, p) in absurd g)

-- the first entry of the first list that has one
pub lightest-of : (es : List Entry) (k : ℕ) (e : Entry) (ds : List Entry) → IsRising es → k < 514 → ((j : ℕ) → 0 < j → j < k → of_list j es ≡ []) → of_list k es ≡ e ∷ ds → IsLightest es (Some e.number)
lightest-of es k e ds rising b none is =
    let test : Entry → Bool = λ x. nat_eq (list_of_weight x.weight) k in
    let own = of-filter test es e (rw is (inl refl)) in
    let list : list_of_weight e.weight ≡ k = eqb-true (list_of_weight e.weight) k own.1 in
    let sorted : IsRising (e ∷ ds) = subst IsRising is (Filters.rising-filter test es rising) in
    (e, in-to es e own.0, refl, λ d c. before d (in-from es d c) list sorted) where
      before : (d : Entry) → In d es → list_of_weight e.weight ≡ k → IsRising (e ∷ ds) → GoesBefore e d
      before d i list sorted =
          let at : In d (of_list (list_of_weight d.weight) es) = in-filter (λ (x : Entry). nat_eq (list_of_weight x.weight) (list_of_weight d.weight)) es d i (eq-eqb (list_of_weight d.weight) (list_of_weight d.weight) refl) in
          elim (order (list_of_weight d.weight) k) [
            | inl lt ↦ (let pos : 0 < list_of_weight d.weight = positive d.weight in
                let f : In d [] = subst (λ (xs : List Entry). In d xs) (none (list_of_weight d.weight) pos lt) at in absurd f)
            | inr r ↦ (elim r [
              | inl same ↦ (let there : In d (e ∷ ds) = subst (λ (xs : List Entry). In d xs) is (subst (λ (j : ℕ). In d (of_list j es)) same at) in
                  let n = first-least e ds sorted d there in
                  let l : list_of_weight e.weight ≤ list_of_weight d.weight = omega (arith, list, same) in
                  let w = lighter-list e.weight d.weight (omega (arith, list, b)) l in
                  elim (split e.weight d.weight w) [ inl x ↦ inl x | inr y ↦ inr (y, n) ])
              | inr gt ↦ (let w = lighter-list e.weight d.weight (omega (arith, list, b)) (omega (arith, list, gt)) in
                  elim (split e.weight d.weight w) [
                    | inl x ↦ inl x
                    | inr y ↦ (let z : list_of_weight e.weight ≡ list_of_weight d.weight = ap list_of_weight y in (let f : ⊥ = omega (arith, list, gt, z) in absurd f))
                  ])
            ])
          ] where
            order : (x y : ℕ) → (x < y) ⊎ ((x ≡ y) ⊎ (y < x))
            order x y = grind arith

            split : (x y : ℕ) → x ≤ y → (x < y) ⊎ (x ≡ y)
            split x y h = grind (arith, h)

            positive : (w : ℕ) → 0 < list_of_weight w
            positive w = grind (arith, nat_tests)
