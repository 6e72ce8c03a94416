-- Numbers in rising order.
use Rattle.std.proofs.Common.{ℕ, suc, ◌≡◌, ◌∙◌, ◌≤◌, ◌<◌, Bool, true, false, List, [], ◌∷◌, length, refl, sym, subst, eq-eqb, arith}
use Rattle.std.specs.Prelude.{nat_eq, slice_index_or, if◌then◌else◌, IsPermutation}
use Rattle.std.specs.List.{sum_by}
use Rattle.std.specs.List.Sorted.{IsNonDecreasingBy}
use Rattle.std.proofs.lemmas.List.Sorted.{sum_by-IsPermutation}
use Rattle.std.proofs.lemmas.Bool.Decides.{nat_tests}
use Rattle.std.proofs.lemmas.List.Sums.{sum_by-cons}
use Rattle.leo_turn.specs.Searches.{AreAbove, IsRising, times}
use Rattle.leo_turn.specs.Turns.{ArePartners}

abbrev one_if : ℕ → ℕ → ℕ
one_if n m = if nat_eq n m then 1 else 0

times-sum : (n : ℕ) (ms : List ℕ) → times n ms ≡ sum_by (one_if n) ms
times-sum n [] = refl
times-sum n (m ∷ ms) = by (nat_eq n m) refl (times-sum n ms)
  where
    by : (b : Bool) → nat_eq n m ≡ b → times n ms ≡ sum_by (one_if n) ms → times n (m ∷ ms) ≡ sum_by (one_if n) (m ∷ ms)
    by true e rest = (let s = sum_by-cons (one_if n) m ms in let f : times n (m ∷ ms) ≡ suc (times n ms) = rw e refl in let g : one_if n m ≡ 1 = rw e refl in omega (arith, s, f, g, rest))
    by false e rest = (let s = sum_by-cons (one_if n) m ms in let f : times n (m ∷ ms) ≡ times n ms = rw e refl in let g : one_if n m ≡ 0 = rw e refl in omega (arith, s, f, g, rest))

pub times-permuted : (n : ℕ) (xs ys : List ℕ) → IsPermutation xs ys → times n ys ≡ times n xs
times-permuted n xs ys p = times-sum n ys ∙ sum_by-IsPermutation (one_if n) xs ys p ∙ sym (times-sum n xs)

-- a number that stands in front of none of its kind, and of none that is less, is below all
above-not_less : (n : ℕ) (ms : List ℕ) → ((j : ℕ) (d : ℕ) → j < length ms → n ≤ slice_index_or ms j d) → times n ms ≡ 0 → AreAbove n ms
above-not_less n [] h t = tt
above-not_less n (m ∷ ms) h t = by (nat_eq n m) refl (above-not_less n ms (λ j d k. h (suc j) d (omega arith)))
  where
    by : (b : Bool) → nat_eq n m ≡ b → (times n ms ≡ 0 → AreAbove n ms) → AreAbove n (m ∷ ms)
    by true e rest = absurd (let f : times n (m ∷ ms) ≡ suc (times n ms) = rw e refl in let g : ⊥ = omega (arith, f, t) in g)
    by false e rest =
        let f : times n (m ∷ ms) ≡ times n ms = rw e refl in
        let l : n ≤ m = h 0 m (omega arith) in
        (grind (arith, nat_tests), rest (sym f ∙ t))

pub rising-sorted : (ms : List ℕ) → IsNonDecreasingBy (λ m. m) ms → ((n : ℕ) → times n ms ≤ 1) → IsRising ms
rising-sorted [] h once = tt
rising-sorted (m ∷ ms) h once =
    let first : times m ms ≡ 0 = (let o = once m in let e : nat_eq m m ≡ true = eq-eqb m m refl in let f : times m (m ∷ ms) ≡ suc (times m ms) = rw e refl in omega (arith, o, f)) in
    (above-not_less m ms (λ j d k. h 0 (suc j) d (omega arith) (omega arith)) first, rising-sorted ms (λ i j d k l. h (suc i) (suc j) d (omega arith) (omega arith)) (λ n. later n (nat_eq n m) refl))
  where
    later : (n : ℕ) (b : Bool) → nat_eq n m ≡ b → times n ms ≤ 1
    later n true e = (let o = once n in let f : times n (m ∷ ms) ≡ suc (times n ms) = rw e refl in omega (arith, o, f))
    later n false e = (let o = once n in let f : times n (m ∷ ms) ≡ times n ms = rw e refl in omega (arith, o, f))

pub partners-sorted : (active : List ℕ) (given : ℕ) (ns : List ℕ) → ((n : ℕ) → times n (given ∷ active) ≤ 1) → IsPermutation (given ∷ active) ns → IsNonDecreasingBy (λ m. m) ns → ArePartners active given ns
partners-sorted active given ns once p s = record {
  rising = rising-sorted ns s (λ n. subst (λ t. t ≤ 1) (sym (times-permuted n (given ∷ active) ns p)) (once n));
  same = p;
}
